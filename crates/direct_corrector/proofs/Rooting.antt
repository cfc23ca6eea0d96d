-- What the search by roots knows before a position, and how a turn carries it to the next.
use Rattle.std.proofs.Common.{◌≡◌, ℕ, ◌+◌, ◌<◌, ◌≤◌, Bool, true, false, ◌≢◌, List, Some, None, sym, refl, ap, ◌∙◌, subst, ap₂, arith}
use Rattle.std.specs.Bool.{then_some}
use Rattle.bits.specs.Bits.{bit_at}
use Rattle.galois.specs.Model.{FieldModel, FieldLaws, size, units, power}
use Rattle.galois.specs.Ring.{numbers}
use Rattle.galois.specs.Rows.{Few}
use Rattle.galois.proofs.Laws.{power-lt}
use Rattle.galois.proofs.PowerSums.{power_sum-lt}
use Rattle.field.specs.declared.syndromes.Syndromes.{Syndromes}
use Rattle.field.specs.Syndromes.{syndromes_of, with_turn}
use Rattle.decoding.specs.Locators.{cubic, Locates}
use Rattle.decoding.proofs.Computed.{cubic-is}
use Rattle.decoding.proofs.Tracks.{Track, track_start, track_found, track_none, track_many, found_at_once, found-near, none_near}
use Rattle.decoding.proofs.RootSearch.{root_turn, root_leave}
use Rattle.galois.proofs.Distances.{Turns}
use Rattle.corrector.specs.Searched.{clean, Searched, Elements}
use Rattle.corrector.proofs.Framing.{clean-code, not_clean}
use Rattle.corrector.proofs.Turned.{sums-turned}
use Rattle.direct_corrector.specs.declared.locator.Coefficients.{Coefficients}
use Rattle.direct_corrector.specs.Roots.{Located, value_at}

-- the search began with the row `start`, and stands before position p after count turns
pub record Known (F : FieldModel) (t : ℕ) (start row : List ℕ) (p count : ℕ) (left : Syndromes) : Type 0 where
  pub track : Track F t (bit_at 8 start) (bit_at 8 row) p count
  pub sums : left ≡ syndromes_of F (bit_at 8 row) (units F)

module _ (F : FieldModel) (l : FieldLaws F) (t : ℕ) (few : Few t) (start : List ℕ) (s : Syndromes)
    (es : s ≡ syndromes_of F (bit_at 8 start) (units F)) where
  pub known_start : Known F t start start 0 0 s
  known_start = record { track = track_start F t (bit_at 8 start); sums = es }

  pub known_clean : clean t s ≡ true → Searched F t start start (Some 0)
  known_clean h =
      let near = found-near F t (bit_at 8 start) (bit_at 8 start) 0 (found_at_once F t (bit_at 8 start) (clean-code F t few (bit_at 8 start) s es h)) in
      (near.0, near.1, λ j _. refl)

  module _ (errors : clean t s ≡ false) (lower : Coefficients) (L : Located F t s lower) where
    abbrev sums : Syndromes
    sums = syndromes_of F (bit_at 8 start) (units F)

    elements : Elements F sums
    elements = (power_sum-lt F l 1 (bit_at 8 start) (units F), power_sum-lt F l 3 (bit_at 8 start) (units F), power_sum-lt F l 5 (bit_at 8 start) (units F))

    found : (lower.second < size F) × (lower.third < size F) × Locates (numbers F) t sums.s1 sums.s3 sums.s5 lower.second lower.third
    found = subst (λ (s : Syndromes). Located F t s lower) es L few elements

    module _ (row after : List ℕ) (p x count v : ℕ) (left : Syndromes) (K : Known F t start row p count left) (lt : p < units F)
        (ex : x ≡ power F p) (ev : v ≡ value_at F s.s1 lower.second lower.third x) where
      value : v ≡ cubic (numbers F) sums.s1 lower.second lower.third (power F p)
      value =
          ev ∙ ap₂ (λ y z. value_at F y lower.second lower.third z) (ap (λ (v : Syndromes). v.s1) es) ex
          ∙ cubic-is F l sums.s1 lower.second lower.third (power F p) _ _ _ _ _ elements.0 found.0 found.1 (power-lt F l p) refl refl refl refl refl

      pub known_turn : v ≡ 0 → Turns (bit_at 8 row) (bit_at 8 after) p → Known F t start after (p + 1) (count + 1) (with_turn F left x)
      known_turn z turn = record {
        track =
            root_turn F l t few (bit_at 8 start) (not_clean F t few (bit_at 8 start) s es errors) lower.second lower.third found.0 found.1
            found.2 (bit_at 8 row) p count v K.track lt value (bit_at 8 after) turn z;
        sums = sums-turned F l (bit_at 8 row) (bit_at 8 after) p x left turn lt ex K.sums;
      }

      pub known_leave : v ≢ 0 → Known F t start row (p + 1) count left
      known_leave nz = record {
        track =
            root_leave F l t few (bit_at 8 start) (not_clean F t few (bit_at 8 start) s es errors) lower.second lower.third found.0 found.1
            found.2 (bit_at 8 row) p count v K.track lt value nz;
        sums = K.sums;
      }

  module _ (row : List ℕ) (p count : ℕ) (left : Syndromes) (K : Known F t start row p count left) (end : p ≡ units F) where
    pub known_found : count ≤ t → clean t left ≡ true → Searched F t start row (Some count)
    known_found le h =
        let near = found-near F t (bit_at 8 start) (bit_at 8 row) count
        (track_found F t (bit_at 8 start) (bit_at 8 row) p count K.track (clean-code F t few (bit_at 8 row) left K.sums h) le) in
        (near.0, near.1, λ j u. K.track.later j (omega arith))

    pub known_none : clean t left ≡ false → Searched F t start row None
    known_none h =
        none_near F t (bit_at 8 start)
        (track_none F t (bit_at 8 start) (bit_at 8 row) p count end K.track (not_clean F t few (bit_at 8 row) left K.sums h))

    -- the last check passes where the row is clean and not more than t cells were turned
    pub known_checked : (b : Bool) → b ≡ clean t left → count ≤ t → Searched F t start row (then_some b count)
    known_checked true e le = known_found le (sym e)
    known_checked false e le = known_none (sym e)

    pub known_many : t < count → Searched F t start row None
    known_many many = none_near F t (bit_at 8 start) (track_many F t (bit_at 8 start) (bit_at 8 row) p count end K.track many)
