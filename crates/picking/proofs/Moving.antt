-- What the code does with a record, over what is noted.
use Prim.Native.Nat.{ℕ, ◌+◌, ◌-◌, ◌≤◌, ◌<◌}
use mathlib.Core.Bool.{Bool, true, false}
use mathlib.Core.List.{List, [], ◌∷◌, ◌++◌, append-nil}
use mathlib.Core.Path.{◌≡◌, refl, sym, ap, ◌∙◌}
use native.Mathlib.Omega.{arith}
use lib.ListN.{length, set, length-append, length-set}
use Rattle.paper.specs.declared.record.Kind.{Kind}
use Rattle.paper.specs.declared.record.Kind.TheVariants.{FileHeader, BatchHeader, Individual, Additional, BatchControl, FileControl, Other}
use Rattle.paper.specs.Buffers.{over}
use Rattle.paper.specs.Extract.{is_to}
use Rattle.paper.specs.Kinds.{kind_of}
use Rattle.paper.specs.Reading.{record_at}
use Rattle.picking.specs.declared.Picking.{Picking}
use Rattle.picking.specs.Notes.{Notes, is_going, waiting, header_waits, record_goes, record_passes, notes_by, notes_with}
use Rattle.picking.specs.Picks.{Fits, ToNote, Moves}

-- an entry put down behind those that are kept, where one at most is lost
put_over : (kept lost before : List ℕ) (a : ℕ) → length lost ≤ 1 → length kept < length before
    → set (over (kept ++ lost) before) (length kept) a ≡ over (kept ++ a ∷ []) before
unfolding over
put_over [] lost [] a o l = absurd (omega arith)
put_over (k ∷ ks) lost [] a o l = absurd (omega arith)
put_over [] [] (b ∷ bs) a o l = refl
put_over [] (h ∷ []) (b ∷ bs) a o l = refl
put_over [] (h ∷ (g ∷ t)) (b ∷ bs) a o l = absurd (omega arith)
put_over (k ∷ ks) lost (b ∷ bs) a o l = ap (λ (x : List ℕ). k ∷ x) (put_over ks lost bs a o (omega arith))

module _ {place : ℕ} {s : Picking} {entry : List ℕ} (asked : ToNote place s entry) where
  abbrev fits : Fits place s
  fits = asked.fits

  room : place < length entry
  room = omega (arith, asked.few, asked.long)

  pub header_waits_lem : Moves (header_waits place) entry s (set entry s.count place) (record { count = s.count; next = s.count + 1; batches = s.batches; mine = false })
  unfolding waiting is_going
  header_waits_lem n before h =
      let w : length (waiting n.stage) ≤ 1 = omega (arith, h.count, h.next, fits.one, length-append n.gone (waiting n.stage)) in
      record {
        count = h.count;
        next = omega (arith, h.count, length-append n.gone (place ∷ []));
        batches = h.batches;
        mine = refl;
        places = rw (h.places, h.count) (put_over n.gone (waiting n.stage) before place w (omega (arith, h.count, h.long, fits.waits, fits.next, room)));
        long = length-set entry s.count place ∙ h.long;
      }

  pub record_goes_lem : Moves (record_goes place) entry s (set entry s.next place)
      (record { count = s.next + 1; next = s.next + 1; batches = s.batches + (s.next - s.count); mine = true })
  unfolding waiting is_going
  record_goes_lem n before h =
      let all : List ℕ = n.gone ++ waiting n.stage in
      let m : s.next + 1 ≡ length (all ++ place ∷ []) = omega (arith, h.next, length-append all (place ∷ [])) in
      record {
        count = m;
        next = rw append-nil m;
        batches = omega (arith, h.count, h.next, h.batches, length-append n.gone (waiting n.stage));
        mine = refl;
        places = rw (append-nil, h.places, h.next) (rw append-nil at (put_over all [] before place (omega arith) (omega (arith, h.next, h.long, fits.next, room))));
        long = length-set entry s.next place ∙ h.long;
      }

pub record_passes_lem : (s : Picking) (entry : List ℕ) → Moves record_passes entry s entry (record { count = s.count; next = s.next; batches = s.batches; mine = false })
unfolding waiting is_going
record_passes_lem s entry n before h = record { count = h.count; next = h.next; batches = h.batches; mine = refl; places = h.places; long = h.long }

-- which of these a record asks for, as it was read
module _ (e : ℕ) (file : List ℕ) (place : ℕ) (s : Picking) (entry : List ℕ) {rec : List ℕ} (r : rec ≡ record_at file place) {k : Kind} (q : k ≡ kind_of rec) where
  abbrev Ends : List ℕ → Picking → Type 0
  Ends exit t = Moves (notes_with e file place) entry s exit t

  kind : kind_of (record_at file place) ≡ k
  kind = ap kind_of (sym r) ∙ sym q

  pub header_noted : {exit : List ℕ} {t : Picking} → k ≡ BatchHeader → Moves (header_waits place) entry s exit t → Ends exit t
  unfolding notes_with notes_by
  header_noted h m n before i = rw (kind, h) (m n before i)

  pub individual_noted : {exit : List ℕ} {t : Picking} → k ≡ Individual → {to : Bool} → to ≡ is_to e rec → to ≡ true → Moves (record_goes place) entry s exit t → Ends exit t
  unfolding notes_with notes_by
  individual_noted h a b m n before i = rw (kind, h, ← r, ← a, b) (m n before i)

  pub other_noted : {t : Picking} → k ≡ Individual → {to : Bool} → to ≡ is_to e rec → to ≡ false → Moves record_passes entry s entry t → Ends entry t
  unfolding notes_with notes_by
  other_noted h a b m n before i = rw (kind, h, ← r, ← a, b) (m n before i)

  pub additional_noted : {exit : List ℕ} {t : Picking} → k ≡ Additional → s.mine ≡ true → Moves (record_goes place) entry s exit t → Ends exit t
  unfolding notes_with notes_by
  additional_noted h b m n before i = rw (kind, h, sym i.mine ∙ b) (m n before i)

  pub additional_left : k ≡ Additional → s.mine ≡ false → Ends entry s
  unfolding notes_with notes_by
  additional_left h b n before i = rw (kind, h, sym i.mine ∙ b) i

  -- headers of files and controls
  none : (j : Kind) → (j ≡ BatchHeader → ⊥) → (j ≡ Individual → ⊥) → (j ≡ Additional → ⊥) → (n : Notes) → notes_by e j place (record_at file place) n ≡ n
  unfolding notes_by
  none FileHeader b i a n = refl
  none BatchHeader b i a n = absurd (b refl)
  none Individual b i a n = absurd (i refl)
  none Additional b i a n = absurd (a refl)
  none BatchControl b i a n = refl
  none FileControl b i a n = refl
  none Other b i a n = refl

  pub nothing_noted_lem : (k ≡ BatchHeader → ⊥) → (k ≡ Individual → ⊥) → (k ≡ Additional → ⊥) → Ends entry s
  unfolding notes_with
  nothing_noted_lem b i a n before h = rw (kind, none k b i a n) h
