-- A buffer unpacked: it says k cells exactly where it is a buffer for k bits, and then those that it shows.
use Rattle.std.proofs.Common.{◌≡◌, ℕ, zero, suc, ◌+◌, ◌-◌, ◌*◌, ◌/◌, ◌<◌, Bool, true, false, cond, not, List, length, sym, refl, ap, ◌∙◌, arith}
use mathlib.Core.Option.{Option, none, some}
use Rattle.std.proofs.lemmas.Bool.{eqb-true, eq-eqb, and_parts, and_from, not-true}
use Rattle.bits.specs.Bits.{bit_at, Buffer}
use Rattle.galois.specs.Lists.{tabulate}
use Rattle.galois.proofs.Tabulated.{length-tabulate}
use Rattle.bch.specs.Buffers.{shown}
use Rattle.tally.specs.Buffers.{unset, unpacked}

chosen : (h : Bool) (x d : List Bool) → cond h (some x) none ≡ some d → (h ≡ true) × (x ≡ d)
chosen true x d e = (refl, cc)
chosen false x d e = cc

unset-all : (f : ℕ → Bool) (n : ℕ) → ((j : ℕ) → j < n → f j ≡ false) → unset (tabulate f n) ≡ true
unfolding tabulate
unset-all f zero h = refl
unset-all f (suc n) h = rw (h 0 (omega arith)) (unset-all (λ j. f (suc j)) n (λ j l. h (suc j) (omega arith)))

unset-at : (f : ℕ → Bool) (n : ℕ) → unset (tabulate f n) ≡ true → (j : ℕ) → j < n → f j ≡ false
unfolding tabulate
unset-at f zero h j l = absurd (omega arith)
unset-at f (suc n) h zero l = not-true (f 0) (and_parts _ _ h).0
unset-at f (suc n) h (suc j) l = unset-at (λ i. f (suc i)) n (and_parts (not (f 0)) _ h).1 j (omega arith)

module _ (k : ℕ) (buffer : List ℕ) where
  -- a buffer for k bits says what it shows
  pub buffer-unpacked : Buffer k buffer → unpacked k buffer ≡ some (shown k buffer)
  unfolding unpacked
  buffer-unpacked fit =
      rw (and_from _ _ (eq-eqb (length buffer) ((k + 7) / 8) fit.sized)
      (unset-all (λ j. bit_at 8 buffer (k + j)) (8 * length buffer - k) (λ j l. fit.unused (k + j) (omega arith) (omega arith))))

  module _ (d : List Bool) (e : unpacked k buffer ≡ some d) where
    -- what it says is what it shows
    pub unpacked-shown : shown k buffer ≡ d
    unfolding unpacked
    unpacked-shown = (chosen _ (shown k buffer) d e).1

    pub unpacked-long : length d ≡ k
    unpacked-long = sym (ap length unpacked-shown) ∙ length-tabulate (bit_at 8 buffer) k

    pub unpacked-buffer : Buffer k buffer
    unfolding unpacked
    unpacked-buffer =
        let u = and_parts _ _ (chosen _ (shown k buffer) d e).0 in
        record {
          sized = eqb-true (length buffer) ((k + 7) / 8) u.0;
          unused = λ j ge lt.
              let z : k + (j - k) ≡ j = omega arith in
              sym (ap (bit_at 8 buffer) z) ∙ unset-at (λ i. bit_at 8 buffer (k + i)) (8 * length buffer - k) u.1 (j - k) (omega arith);
        }

  -- what is no buffer for k bits says nothing
  pub other_unpacked : (Buffer k buffer → ⊥) → unpacked k buffer ≡ none
  other_unpacked bad = go (unpacked k buffer) refl
    where
      go : (o : Option (List Bool)) → unpacked k buffer ≡ o → unpacked k buffer ≡ none
      go none e = e
      go (some d) e = absurd (bad (unpacked-buffer d e))
