-- What the search step by step knows before a position, and how a trial carries it to the next.
use Rattle.std.proofs.Common.{◌≡◌, ℕ, ◌+◌, ◌*◌, ◌<◌, ◌≤◌, Bool, true, false, List, length, Some, None, sym, refl, ap, ◌∙◌, subst, arith}
use mathlib.Core.Path.{fun_ext}
use Rattle.std.specs.Bool.{then_some}
use Rattle.std.proofs.lemmas.Bool.{both_ways, false≢true}
use Rattle.bits.specs.Bits.{bit_at, turned_at}
use Rattle.galois.specs.Model.{FieldModel, FieldLaws, units, power}
use Rattle.galois.specs.Rows.{Few}
use Rattle.galois.proofs.PowerSums.{power_sum-lt}
use Rattle.field.specs.declared.syndromes.Syndromes.{Syndromes}
use Rattle.field.specs.Syndromes.{syndromes_of, with_turn}
use Rattle.decoding.proofs.Shown.{class_at}
use Rattle.decoding.proofs.Tracks.{track_within, found-near, none_near}
use Rattle.decoding.proofs.StepSearch.{Steps, steps_start, steps_turn, steps_leave, steps_found, steps_none, beyond_none}
use Rattle.decoding.proofs.Turning.{turned-turns}
use Rattle.corrector.specs.Searched.{Searched, Elements}
use Rattle.corrector.proofs.Turned.{bits_turn, sums-turned}
use Rattle.step_corrector.specs.declared.class.Class.{Class}
use Rattle.step_corrector.specs.declared.class.Class.TheVariants.{Clean, Beyond}
use Rattle.step_corrector.specs.declared.trials.Standing.{Standing}
use Rattle.step_corrector.specs.Classes.{number, class_for, falls}
use Rattle.step_corrector.specs.Trials.{Classed, Tried}
use Rattle.step_corrector.proofs.Classing.{class_counts, falls-true, falls-from, not_clean}

-- the search began with the row `start`, and stands before position p after count turns
pub record Known (F : FieldModel) (t : ℕ) (start row : List ℕ) (p count : ℕ) (now : Standing) : Type 0 where
  pub sums : now.sums ≡ syndromes_of F (bit_at 8 row) (units F)
  pub steps : Steps F t (bit_at 8 start) (bit_at 8 row) p count (number now.class)

module _ (F : FieldModel) (l : FieldLaws F) (t : ℕ) (few : Few t) where
  elements : (c : ℕ → Bool) → Elements F (syndromes_of F c (units F))
  elements c = (power_sum-lt F l 1 c (units F), power_sum-lt F l 3 c (units F), power_sum-lt F l 5 c (units F))

  -- the class of the syndromes of a row is its class
  classed_at : (c : ℕ → Bool) (s : Syndromes) (k : Class) → s ≡ syndromes_of F c (units F) → Classed F t s k → number k ≡ class_at F t c
  classed_at c s k es K = subst (λ s. Classed F t s k) es K few (elements c)

  pub known_start : (start : List ℕ) (s : Syndromes) (k : Class) → Classed F t s k → s ≡ syndromes_of F (bit_at 8 start) (units F)
      → Known F t start start 0 0 (record { sums = s; class = k })
  known_start start s k K es = record {
    sums = es;
    steps = steps_start F l t few (bit_at 8 start) (number k) (classed_at (bit_at 8 start) s k es K);
  }

  module _ (start row after : List ℕ) (p x count : ℕ) (now : Standing) (K : Known F t start row p count now) (lt : p < units F)
      (room : p < 8 * length row) (ex : x ≡ power F p) where
    pub known_turn : (kept : Standing) → Tried F t row after p x now (Some kept) → Known F t start after (p + 1) (count + 1) kept
    known_turn kept ((es, ec, fall), turned) =
        let turn = bits_turn row after p (turned room) in
        let e = es ∙ sums-turned F l (bit_at 8 row) (bit_at 8 after) p x now.sums turn lt ex K.sums in
        let all : Elements F kept.sums = subst (Elements F) (sym e) (elements (bit_at 8 after)) in
        let f = falls-true now.class kept.class (ap (falls now.class) (ec all) ∙ fall all) in record {
          sums = e;
          steps =
              steps_turn F l t few (bit_at 8 start) (bit_at 8 row) (bit_at 8 after) p count (number now.class) (number kept.class) K.steps lt
              turn (classed_at _ kept.sums kept.class e (λ few h. ap number (ec h) ∙ class_counts F l t kept.sums few)) f.0 f.1;
        }

    pub known_leave : Tried F t row after p x now None → Known F t start after (p + 1) count now
    known_leave (stays, same) =
        let c = bit_at 8 row in
        let y = bit_at 8 (turned_at 8 row p) in
        let out = with_turn F now.sums x in
        let turn = turned-turns row p room in
        let e = sums-turned F l c y p x now.sums turn lt ex K.sums in
        let k = class_for F t out in
        let all : Elements F out = subst (Elements F) (sym e) (elements y) in
        let was : c ≡ bit_at 8 after = fun_ext (λ i. sym (same room i)) in record {
          sums = K.sums ∙ ap (λ d. syndromes_of F d (units F)) was;
          steps =
              subst (λ d. Steps F t (bit_at 8 start) d (p + 1) count (number now.class)) was
              (steps_leave F l t few (bit_at 8 start) c y p count (number now.class) (number k) K.steps lt turn
              (classed_at y out k e (λ few _. class_counts F l t out few))
              (λ e u. both_ways (falls now.class k) (stays all) (falls-from now.class k e u)));
        }

  module _ (start row : List ℕ) (p count : ℕ) (now : Standing) (K : Known F t start row p count now) (le : p ≤ units F) where
    pub known_found : now.class ≡ Clean → Searched F t start row (Some count)
    known_found e =
        let near = found-near F t (bit_at 8 start) (bit_at 8 row) count
        (steps_found F l t few (bit_at 8 start) (bit_at 8 row) p count (number now.class) K.steps (ap number e)) in
        (near.0, near.1, λ j h. K.steps.track.later j (omega arith))

    pub known_none : p ≡ units F → (now.class ≡ Clean → ⊥) → Searched F t start row None
    known_none e n =
        none_near F t (bit_at 8 start)
        (steps_none F l t few (bit_at 8 start) (bit_at 8 row) p count (number now.class) e K.steps (not_clean now.class n))

    -- past the last position there is one where the row is clean
    pub known_checked : p ≡ units F → (b : Bool) → (b ≡ true → now.class ≡ Clean) → (now.class ≡ Clean → b ≡ true)
        → Searched F t start row (then_some b count)
    known_checked e true is told = known_found (is refl)
    known_checked e false is told = known_none e (λ c. false≢true (told c))

    pub known_beyond : now.class ≡ Beyond → Searched F t start row None
    known_beyond e =
        none_near F t (bit_at 8 start)
        (λ d W. beyond_none F l t few (bit_at 8 row) 4 (ap number (sym e) ∙ K.steps.class) (omega arith) d
        (track_within F t (bit_at 8 start) (bit_at 8 row) d p count K.steps.track W))
