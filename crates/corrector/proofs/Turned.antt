-- The syndromes of a row buffer once one of its positions is turned.
use Rattle.std.proofs.Common.{◌≡◌, ℕ, ◌*◌, ◌<◌, Bool, true, cond, not, eqb, List, Ok, Err, Result, refl, ap, ◌∙◌, subst, arith}
use Rattle.std.proofs.lemmas.Bool.{eq-eqb, ne_eqb, false≢true}
use Rattle.std.specs.Result.{is_ok}
use Rattle.refusal.specs.declared.Refusal.{Refusal}
use Rattle.bits.specs.Bits.{bit_at}
use Rattle.bits.specs.Calls.{Changed}
use Rattle.galois.specs.Model.{FieldModel, FieldLaws, units, power, product-of}
use Rattle.galois.proofs.Distances.{Turns}
use Rattle.galois.proofs.Powers.{cube_is, fifth_is}
use Rattle.field.specs.declared.syndromes.Syndromes.{Syndromes}
use Rattle.field.specs.Syndromes.{syndromes_of, with_turn}
use Rattle.decoding.proofs.Computed.{turned-sum}

three : {a b c x y z : ℕ} → a ≡ x → b ≡ y → c ≡ z → ◌≡◌ {A = Syndromes} (record { s1 = a; s3 = b; s5 = c }) (record { s1 = x; s3 = y; s5 = z })
three p q r = cc

-- a bit turned over, by what is said of each bit
pub bits_turn : (before after : List ℕ) (p : ℕ) → ((i : ℕ) → bit_at 8 after i ≡ cond (eqb i p) (not (bit_at 8 before i)) (bit_at 8 before i))
    → Turns (bit_at 8 before) (bit_at 8 after) p
bits_turn before after p h = record {
  here = h p ∙ ap (λ b. cond b (not (bit_at 8 before p)) (bit_at 8 before p)) (eq-eqb p p refl);
  there = λ i n. h i ∙ ap (λ b. cond b (not (bit_at 8 before i)) (bit_at 8 before i)) (ne_eqb i p n);
}

-- and by what the call that turned it answers
pub turn_turns : {U : Type 0} (before after : List ℕ) (p j : ℕ) (r : Result U Refusal) → Changed 8 not before after j r → is_ok r ≡ true → j ≡ p
    → Turns (bit_at 8 before) (bit_at 8 after) p
turn_turns before after p j (Ok u) (_, h, _) is e = subst (Turns (bit_at 8 before) (bit_at 8 after)) e (bits_turn before after j h)
turn_turns before after p j (Err f) h is e = absurd (false≢true is)

module _ (F : FieldModel) (l : FieldLaws F) where
  pub sums-turned : (c y : ℕ → Bool) (p x : ℕ) (s : Syndromes) → Turns c y p → p < units F → x ≡ power F p → s ≡ syndromes_of F c (units F)
      → with_turn F s x ≡ syndromes_of F y (units F)
  sums-turned c y p x s turn lt ex es =
      let one : p ≡ 1 * p = omega arith in
      let q = product-of F x x in
      three (turned-sum F l c y p 1 s.s1 x _ turn lt (ap (λ (v : Syndromes). v.s1) es) (ex ∙ ap (power F) one) refl)
      (turned-sum F l c y p 3 s.s3 (product-of F q x) _ turn lt (ap (λ (v : Syndromes). v.s3) es) (cube_is F l x q (product-of F q x) p ex refl refl) refl)
      (turned-sum F l c y p 5 s.s5 (product-of F (product-of F q x) q) _ turn lt (ap (λ (v : Syndromes). v.s5) es)
      (fifth_is F l x q (product-of F q x) p ex refl refl _ refl) refl)
