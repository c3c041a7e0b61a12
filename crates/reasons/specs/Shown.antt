-- What showing says, in the paper's numbers.
use Rattle.std.specs.Prelude.{Result, Ok, Err}
use Rattle.paper.specs.declared.answer.Refusal.{Refusal}
use Rattle.paper.specs.Answers.{accepted, refused, number_of}
use Rattle.paper.specs.Receiving.{TextPlace, in_file, in_motives, nowhere, Showing}
use Rattle.reasons.specs.declared.Shown.{Shown}
use Rattle.reasons.specs.declared.Shown.TheVariants.{File, Motives}

abbrev pub text_place : Shown → TextPlace
text_place (File at) = in_file at
text_place (Motives at) = in_motives at

abbrev pub showing_of : Result Shown Refusal → Showing
showing_of (Ok shown) = record { answer = accepted; text = text_place shown }
showing_of (Err r) = record { answer = refused (number_of r.fault) r.place; text = nowhere }
