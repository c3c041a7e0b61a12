use Rattle.std.proofs.Common.{List, length, ℕ, ◌-◌, ◌≡◌}
use Rattle.export.specs.Member.{text_found, texts_from}
use Rattle.export.proofs.member.hand_texts.Given as goal

-- the records before this one are written, and the rest leads to the same end
pub record Progress (file texts₀ : List ℕ) (records : ℕ) (texts : List ℕ) (i : ℕ) : Type 0 where
  pub long : length texts ≡ length texts₀
  pub left : texts_from (text_found file) records 0 texts₀ ≡ texts_from (text_found file) (records - i) i texts

abbrev pub invariant-loop-i : goal.invariant-loop-i
invariant-loop-i l = Progress l.file l.initial.texts l.records l.texts l.i
