-- What corrects rows for one field and one t leaves no choice.
use Rattle.std.proofs.Common.{◌≡◌, ℕ, ◌+◌, ◌*◌, ◌/◌, ◌%◌, ◌<◌, ◌≤◌, false, eqb, List, ◌++◌, length, get_or, take, drop, Ok, Err, Result, sym, refl, ap, ◌∙◌, subst, ap₂, inl, inr, ⊎_elim, arith}
use Rattle.std.proofs.lemmas.Bool.Decides.{nat_tests}
use Rattle.std.proofs.lemmas.Nat.Bits.{same_from_bits_below}
use Rattle.std.proofs.Math.Seq.{take-append_seam}
use Rattle.std.proofs.lemmas.List.{get_or_past, get_or_append_left, append_cancel_right, length-append}
use Rattle.std.proofs.lemmas.Bool.{cases_lt}
use Rattle.refusal.specs.declared.Refusal.{Refusal}
use Rattle.refusal.specs.Order.{Unless, Never}
use Rattle.refusal.specs.declared.Refusal.TheVariants.{Length, UnusedBit, NoCodeRow}
use Rattle.bits.specs.Bits.{bit_of, bit_at, Buffer}
use Rattle.bits.proofs.Turning.{bit_of-zero}
use Rattle.galois.specs.Model.{FieldModel, FieldLaws, units}
use Rattle.galois.specs.Rows.{cell_of, distance}
use Rattle.galois.proofs.Least.{rows_apart}
use Rattle.galois.proofs.Tabulated.{same_list}
use Rattle.decoding.proofs.Within.{cell-tabulate}
use Rattle.bch.specs.Buffers.{shown}
use Rattle.bch.proofs.Counts.{units_lt}
use Rattle.corrector.specs.Corrected.{Corrected}
use Rattle.corrector.specs.Agreed.{Bytes, OneCorrection, Compared}
use Rattle.corrector.specs.declared.comparison.Agreement.TheVariants.{Alike, Unlike}

-- ---- bytes by their bits
two : (a b : ℕ) → a < 2 → b < 2 → eqb a 1 ≡ eqb b 1 → a ≡ b
two a b ha hb e = grind (arith, nat_tests)

-- two buffers have the same bits
abbrev pub SameBits : List ℕ → List ℕ → Type 0
SameBits a b = (j : ℕ) → bit_at 8 a j ≡ bit_at 8 b j

pub same_byte : (a b : List ℕ) (i : ℕ) → SameBits a b → get_or a i 0 < 256 → get_or b i 0 < 256 → get_or a i 0 ≡ get_or b i 0
same_byte a b i same ha hb =
    same_from_bits_below 8 (get_or a i 0) (get_or b i 0) ha hb
    (λ j lt. two _ _ (omega arith) (omega arith) (sym (at a j lt) ∙ same (8 * i + j) ∙ at b j lt))
  where
    at : (a : List ℕ) (j : ℕ) → j < 8 → bit_at 8 a (8 * i + j) ≡ bit_of (get_or a i 0) j
    at a j lt =
        let q : (8 * i + j) / 8 ≡ i = omega arith in
        let r : (8 * i + j) % 8 ≡ j = omega arith in
        ap (λ k. bit_of (get_or a k 0) ((8 * i + j) % 8)) q ∙ ap (bit_of (get_or a i 0)) r

bit_past : (a : List ℕ) (j : ℕ) → 8 * length a ≤ j → bit_at 8 a j ≡ false
bit_past a j le = ap (λ x. bit_of x (j % 8)) (get_or_past a (j / 8) 0 (omega arith)) ∙ bit_of-zero (j % 8)

-- buffers that show the same row have the same bits
same_buffer : (n : ℕ) (a b : List ℕ) → Buffer n a → Buffer n b → shown n a ≡ shown n b → SameBits a b
same_buffer n a b A B e j =
    ⊎_elim
    (λ (lt : j < n). sym (cell-tabulate (bit_at 8 a) n j lt) ∙ ap (λ row. cell_of row j) e ∙ cell-tabulate (bit_at 8 b) n j lt)
    (λ (le : n ≤ j).
    ⊎_elim (λ (lt : j < 8 * length a). A.unused j le lt ∙ sym (B.unused j le (let x = A.sized in let y = B.sized in omega arith)))
    (λ (past : 8 * length a ≤ j). bit_past a j past ∙ sym (bit_past b j (let x = A.sized in let y = B.sized in omega arith)))
    (cases_lt j (8 * length a)))
    (cases_lt j n)

-- ---- corrections
abbrev Refuses : (P Q R : Type 0) → Refusal → Type 0
Refuses P Q R = Unless P Length (Unless Q UnusedBit (Unless R NoCodeRow Never))

-- the first refusal that applies is one
refusals_meet : (P Q R : Type 0) (e f : Refusal) → Refuses P Q R e → Refuses P Q R f → e ≡ f
refusals_meet P Q R e f (inl p) (inl q) = p.1 ∙ sym q.1
refusals_meet P Q R e f (inl p) (inr q) = absurd (p.0 q.0)
refusals_meet P Q R e f (inr p) (inl q) = absurd (q.0 p.0)
refusals_meet P Q R e f (inr (a, inl p)) (inr (b, inl q)) = p.1 ∙ sym q.1
refusals_meet P Q R e f (inr (a, inl p)) (inr (b, inr q)) = absurd (p.0 q.0)
refusals_meet P Q R e f (inr (a, inr p)) (inr (b, inl q)) = absurd (q.0 p.0)
refusals_meet P Q R e f (inr (a, inr (c, inl p))) (inr (b, inr (d, inl q))) = p.1 ∙ sym q.1
refusals_meet P Q R e f (inr (a, inr (c, inl p))) (inr (b, inr (d, inr q))) = absurd q.1
refusals_meet P Q R e f (inr (a, inr (c, inr p))) (inr (b, inr q)) = absurd p.1

pub corrections-meet : (F : FieldModel) → FieldLaws F → (t : ℕ) (before first second : List ℕ) (r s : Result ℕ Refusal) → Corrected F t before first r
    → Corrected F t before second s → (r ≡ s) × SameBits first second × (length first ≡ length second)
corrections-meet F l t before first second (Ok r) (Ok s) (a, b, near, er) (c, d, far, es) =
    let n = units F in
    let e = (rows_apart F l t).one_near (shown n before) (shown n first) (shown n second) near far in
    (ap Ok (er ∙ ap (distance (shown n before)) e ∙ sym es), same_buffer n first second b d e, b.sized ∙ sym d.sized)
corrections-meet F l t before first second (Ok r) (Err e) (a, b, near, er) (inl p, is) = absurd (p.0 a.sized)
corrections-meet F l t before first second (Ok r) (Err e) (a, b, near, er) (inr (p, inl q), is) = absurd (q.0 a.unused)
corrections-meet F l t before first second (Ok r) (Err e) (a, b, near, er) (inr (p, inr (q, inl v)), is) = absurd (v.0 (shown (units F) first, near))
corrections-meet F l t before first second (Ok r) (Err e) (a, b, near, er) (inr (p, inr (q, inr (v, never))), is) = absurd never
corrections-meet F l t before first second (Err e) (Ok s) (inl p, is) (c, d, far, es) = absurd (p.0 c.sized)
corrections-meet F l t before first second (Err e) (Ok s) (inr (p, inl q), is) (c, d, far, es) = absurd (q.0 c.unused)
corrections-meet F l t before first second (Err e) (Ok s) (inr (p, inr (q, inl v)), is) (c, d, far, es) = absurd (v.0 (shown (units F) second, far))
corrections-meet F l t before first second (Err e) (Ok s) (inr (p, inr (q, inr (v, never))), is) (c, d, far, es) = absurd never
corrections-meet F l t before first second (Err e) (Err f) (h, is) (k, also) =
    (ap Err (refusals_meet _ _ _ e f h k), λ j. ap (λ a. bit_at 8 a j) (is ∙ sym also), ap length (is ∙ sym also))

pub one_correction : (F : FieldModel) → FieldLaws F → (t : ℕ) → OneCorrection F t
one_correction F l t before first second r s hf hs C D =
    let m = corrections-meet F l t before first second r s C D in
    (m.0, same_list first second 0 m.2 (λ i lt. same_byte first second i m.1 (hf i lt) (hs i (let z = m.2 in omega arith))))

-- ---- comparing
-- a buffer of more than 32 bytes is refused
pub too_long : (F : FieldModel) → FieldLaws F → (t : ℕ) (row : List ℕ) → 32 < length row → Corrected F t row row (Err Length)
too_long F l t row long = (inl ((λ sized. let z = units_lt F l in omega arith), refl), refl)

front : (a b : List ℕ) → Bytes (a ++ b) → Bytes a
front a b h i lt = subst (λ n. n < 256) (get_or_append_left a b 0 i lt) (h i (omega (arith, length-append a b)))

-- two copies of a row, each corrected: drafts with zeros behind them
module _ (F G : FieldModel) (l : FieldLaws F) (t u : ℕ) (row tail copy other first second : List ℕ) (r s : Result ℕ Refusal) (ec : copy ≡ row ++ tail)
    (eo : other ≡ row ++ tail) (C : Corrected F t (take (length row) copy) first r) (D : Corrected G u (take (length row) other) second s) where
  here : Corrected F t row first r
  here = subst (λ a. Corrected F t a first r) (ap (take (length row)) ec ∙ take-append_seam row tail) C

  there : Corrected G u row second s
  there = subst (λ a. Corrected G u a second s) (ap (take (length row)) eo ∙ take-append_seam row tail) D

  abbrev fore : List ℕ
  fore = first ++ drop (length row) copy

  abbrev back : List ℕ
  back = second ++ drop (length row) other

  tails : drop (length row) copy ≡ drop (length row) other
  tails = ap (drop (length row)) (ec ∙ sym eo)

  pub told_same : r ≡ s → fore ≡ back → Compared F t G u row Alike
  told_same e ef =
      let same : first ≡ second = append_cancel_right first second (drop (length row) copy) (ef ∙ ap (λ a. second ++ a) (sym tails)) in
      (first, r, here, subst (λ a. Corrected G u row a r) (sym same) (subst (λ a. Corrected G u row second a) (sym e) there))

  pub told_other : (r ≡ s → fore ≡ back → ⊥) → Compared F t G u row Unlike
  told_other n = (first, second, r, s, here, there, λ e same. n e (ap₂ (λ a b. a ++ b) same tails))

  module _ (eF : F ≡ G) (et : t ≡ u) where
    also : Corrected F t row second s
    also = subst (λ k. Corrected F k row second s) (sym et) (subst (λ H. Corrected H u row second s) (sym eF) there)

    pub same_answers : r ≡ s
    same_answers = (corrections-meet F l t row first second r s here also).0

    pub same_copies : Bytes fore × Bytes back → fore ≡ back
    same_copies (hf, hs) =
        let same = one_correction F l t row first second r s (front first _ hf) (front second _ hs) here also in
        ap₂ (λ a b. a ++ b) same.1 tails
