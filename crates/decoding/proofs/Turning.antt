-- What turning one bit of a buffer does to the row that it shows.
use Rattle.std.proofs.Common.{◌≡◌, ℕ, ◌*◌, ◌/◌, ◌%◌, ◌^◌, ◌<◌, cond, not, List, length, get_or, set, refl, ap, ◌∙◌, arith, length-set}
use lib.Bits.{bit_xor, xor_zero_r, xor_assoc, xor_self}
use Rattle.std.proofs.lemmas.List.{get_or-set_same, set-set, set-get_or}
use Rattle.std.proofs.lemmas.Bool.{eq-eqb, ne_eqb}
use Rattle.bits.specs.Bits.{bit_at, turned_at}
use Rattle.bits.proofs.Turning.{bit_at-turned_at}
use Rattle.galois.proofs.Distances.{Turns}

pub turned-length : (buffer : List ℕ) (k : ℕ) → length (turned_at 8 buffer k) ≡ length buffer
turned-length buffer k = simp length-set

pub turned-turns : (buffer : List ℕ) (k : ℕ) → k < 8 * length buffer → Turns (bit_at 8 buffer) (bit_at 8 (turned_at 8 buffer k)) k
turned-turns buffer k lt = record {
  here = bit_at-turned_at 8 buffer k k (omega arith) ∙ ap (λ b. cond b (not (bit_at 8 buffer k)) (bit_at 8 buffer k)) (eq-eqb k k refl);
  there = λ j other. bit_at-turned_at 8 buffer k j (omega arith) ∙ ap (λ b. cond b (not (bit_at 8 buffer j)) (bit_at 8 buffer j)) (ne_eqb j k other);
}

-- turned twice it is as it was
pub turned-back : (buffer : List ℕ) (k : ℕ) → k < 8 * length buffer → turned_at 8 (turned_at 8 buffer k) k ≡ buffer
turned-back buffer k lt =
    let in-range : k / 8 < length buffer = omega arith in
    let v = get_or buffer (k / 8) 0 in
    let b = 2 ^ (k % 8) in
    let same : bit_xor (bit_xor v b) b ≡ v = xor_assoc v b b ∙ ap (bit_xor v) (xor_self b) ∙ xor_zero_r v in
    set-set buffer (k / 8) (bit_xor v b) (bit_xor (get_or (set buffer (k / 8) (bit_xor v b)) (k / 8) 0) b)
    ∙ ap (λ x. set buffer (k / 8) (bit_xor x b)) (get_or-set_same buffer (k / 8) (bit_xor v b) 0 in-range)
    ∙ ap (λ x. set buffer (k / 8) x) same ∙ set-get_or buffer (k / 8) 0
