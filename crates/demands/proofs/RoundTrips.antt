-- Building and stripping undo each other: each hypothesis is what a call of build or strip says, whatever was lent.
use Prim.Native.Nat.{ℕ, ◌≤◌}
use native.Mathlib.Omega.{arith}
use mathlib.Core.List.{List}
use mathlib.Core.Logic.{◌↔◌}
use mathlib.Core.Path.{◌≡◌, refl, sym, ap, ◌∙◌, ap₂, subst}
use lib.ListN.{length, take, drop}
use lib.Seq.{take_at}
use Rattle.std.specs.Prelude.{Ok, Err}
use Rattle.paper.specs.declared.rules.Rules.{Rules}
use Rattle.paper.specs.Answers.{Answer, Output, Said, accepted, refused, said}
use Rattle.paper.specs.Reading.{records_of, reading}
use Rattle.paper.specs.Writing.{joined, closing}
use Rattle.paper.specs.Trays.{tray_records, tray_fault, build, strip}
use Rattle.paper.specs.Sessions as paper
use Rattle.paper.specs.Sessions.{answer_to, session_after, presenting}
use Rattle.paper.specs.Buffers.{Outcome, told, written, building, stripping}
use Rattle.paper.specs.Demands.{AsBuilt}
use Rattle.paper.proofs.Accepted.{accepted_facts}
use Rattle.paper.proofs.Lent.{strip_built}
use Rattle.paper.proofs.Round.{round_trip}
use Rattle.paper.proofs.Back.{build_strips_back}
use Rattle.paper.proofs.Rebuilding.{build_stripped}
use Rattle.paper.proofs.Numbers.{said_once}
use Rattle.desk.specs.declared.Session.{Session}
use Rattle.desk.specs.declared.Reply.{Reply}
use Rattle.desk.specs.Standing.{rules_of, standing, heard}
use Rattle.desk.specs.Lent.{handed}
use Rattle.desk.specs.Calls.{Builds, Strips}
use Rattle.desk.proofs.Lent.{held}
use Rattle.demands.proofs.Lent.{numbers}
use Rattle.demands.proofs.TrayFaults.{none_bad}
use Rattle.demands.proofs.Building.{build_exactly, build_held}
use Rattle.demands.proofs.Stripping.{strip_exactly, strip_held}

-- ---- a session that rules alike

-- a presentation, accepted or refused, hands back a session of the same date, currency and roster: it changes cells and identifiers only
-- (not so with a session that moves on to the next date, or one that takes an entity off the roster)
pub presented_rules : (s : Session) (file : List ℕ) (reply : Reply) → heard reply ≡ presenting (standing s) file → rules_of reply.session ≡ rules_of s
unfolding presenting session_after
presented_rules s file reply h = ap (λ (x : paper.Reply). x.session.rules) h ∙ go (answer_to (standing s) file)
  where
    go : (a : Said) → (session_after a (standing s) file).rules ≡ rules_of s
    go accepted = refl
    go (refused n place) = refl

-- ---- a file that was built

module _ (s : Session) (header tray before : List ℕ) (r : Output) (after : List ℕ) (h : Builds s header tray before r after) {n : ℕ} (p : r ≡ Ok n) where
  answered : (building (rules_of s) header tray before).answer ≡ accepted
  answered = sym (ap (λ (o : Outcome). o.answer) h) ∙ ap (λ (x : Output). (told x after).answer) p

  the-file : handed r after ≡ build header tray
  the-file = (build_held s header tray before r after h p).0

  pub built_reads : reading (rules_of s) (handed r after) ≡ accepted
  built_reads = ap (reading (rules_of s)) the-file ∙ ((build_exactly s header tray before r after h).1 n p).reads

  -- in that session, or in one of the same date, currency and roster, such as presentations hand back
  module _ (t : Session) (same : rules_of t ≡ rules_of s) where
    -- what was built is accepted when it is read, out of the buffer or as it was handed over
    -- (not so with controls that no reading takes, or with a number of bytes that is not the file's)
    pub built_reads_again : (a : Answer) → said a ≡ reading (rules_of t) (handed r after) → a ≡ Ok tt
    built_reads_again a e = said_once a (Ok tt) (e ∙ ap (λ (rules : Rules). reading rules (handed r after)) same ∙ built_reads)

    pub built_reads_there : (a : Answer) → said a ≡ reading (rules_of t) (take n after) → a ≡ Ok tt
    unfolding handed
    built_reads_there a e = built_reads_again a (e ∙ ap (λ (x : Output). reading (rules_of t) (handed x after)) (sym p))

    -- "where building from a tray succeeds, stripping the file in that session, with room, returns the tray"
    -- (not so with a strip that leaves the file's numbers in 88-94, or a build that leaves out a record without a word)
    module _ (other : List ℕ) (q : Output) (later : List ℕ) (k : Strips t (handed r after) other q later) (room : length tray ≤ length other) where
      returned : told q later ≡ written accepted tray other
      unfolding written
      returned =
          k
          ∙ ap₂ (λ (rules : Rules) (f : List ℕ). stripping rules f other) same the-file
          ∙ strip_built (rules_of s) header tray before other answered room

      pub built_then_stripped : (q ≡ Ok (length tray)) × (handed q later ≡ tray) × (drop (length tray) later ≡ drop (length tray) other)
      built_then_stripped =
          let e = numbers accepted tray other q later returned refl in
          let x = held accepted tray other q later returned e in
          (e, x.0, x.2)

  -- what was built is numbered 1, 2, .. and its free control positions are blank
  -- (not so with batches numbered from 0, or with zeros in the free positions of a control)
  pub built_as_built : AsBuilt 0 0 (records_of (handed r after))
  unfolding build closing joined
  built_as_built =
      let file : List ℕ = build header tray in
      let x = (build_exactly s header tray before r after h).1 n p in
      let good : tray_fault 0 (tray_records tray) ≡ accepted = none_bad tray x.good in
      let front : take 94 file ≡ header = take_at header _ 94 x.body in
      let back : strip file ≡ tray = round_trip (rules_of s) header tray x.body x.whole good x.reads in
      subst (λ (f : List ℕ). AsBuilt 0 0 (records_of f)) (sym the-file) ((build_strips_back (rules_of s) file x.reads).0 (ap₂ build front back))

-- ---- a file that was stripped

-- and built again, in that session or in one of the same date, currency and roster
module _ (s : Session) (file before : List ℕ) (r : Output) (after : List ℕ) (h : Strips s file before r after) {n : ℕ} (p : r ≡ Ok n)
    (t : Session) (same : rules_of t ≡ rules_of s)
    (other : List ℕ) (q : Output) (later : List ℕ) (k : Builds t (take 94 file) (handed r after) other q later) (room : length file ≤ length other) where
  reads : reading (rules_of s) file ≡ accepted
  reads = ((strip_exactly s file before r after h).1 n p).reads

  the-tray : handed r after ≡ strip file
  the-tray = (strip_held s file before r after h p).0

  returned_file : AsBuilt 0 0 (records_of file) → told q later ≡ written accepted file other
  unfolding written
  returned_file b =
      k
      ∙ ap₂ (λ (rules : Rules) (x : List ℕ). building rules (take 94 file) x other) same the-tray
      ∙ build_stripped (rules_of s) file other reads b room

  -- "building from a stripped file and its own header gives the file", where it is as built; with room, and the rest of the buffer stays
  -- (not so with a build that numbers each batch's individuals from 1, or a strip that leaves out additional records)
  pub stripped_comes_back : AsBuilt 0 0 (records_of file) → (q ≡ Ok (length file)) × (handed q later ≡ file) × (drop (length file) later ≡ drop (length file) other)
  stripped_comes_back b =
      let e = numbers accepted file other q later (returned_file b) refl in
      let x = held accepted file other q later (returned_file b) e in
      (e, x.0, x.2)

  -- "exactly when it is numbered this way and its free control positions are blank": no other file comes back
  -- (not so with a file's own numbers kept by both, or with free control positions left as the buffer had them)
  pub stripped_then_built : (handed q later ≡ file) ↔ AsBuilt 0 0 (records_of file)
  unfolding handed
  stripped_then_built = (go q refl, λ b. (stripped_comes_back b).1)
    where
      go : (x : Output) → q ≡ x → handed q later ≡ file → AsBuilt 0 0 (records_of file)
      go (Err r) e f = absurd (omega (arith, (accepted_facts (rules_of s) file reads).long, ap length (sym f ∙ ap (λ (x : Output). handed x later) e)))
      go (Ok m) e f =
          let b = (build_held t (take 94 file) (handed r after) other q later k e).0 in
          (build_strips_back (rules_of s) file reads).0 (ap (build (take 94 file)) (sym the-tray) ∙ sym b ∙ f)
