-- An entry put, over plain values.
use Rattle.std.proofs.Common.{◌≡◌, ℕ, ◌+◌, ◌*◌, ◌/◌, ◌%◌, ◌<◌, ◌≢◌, List, [], ◌∷◌, length, get_or, set, ℤ, Ok, Err, Result, sym, ap, ◌∙◌, subst, ap₂, ⊎_elim, arith}
use lib.Ieee.{Float}
use Rattle.std.proofs.lemmas.List.{length-set, get_or-set_same, get_or-set_other}
use Rattle.refusal.specs.declared.Refusal.{Refusal}
use Rattle.bits.specs.Bits.{bit_of, Buffer}
use Rattle.tally.specs.Tally.{read}
use Rattle.book.specs.Model.{BookModel, rows_of, data_size}
use Rattle.book.specs.Promised.{WriteCall}
use Rattle.entry.specs.TwosComplement.{bytes_of, number_of}
use Rattle.entry.specs.Values.{entry_of}
use Rattle.table.specs.Model.{per_row, entries_of, row_number, index_in, room, entry_at, changed}
use Rattle.table.specs.Calls.{Stands, RowRead, Put}
use Rattle.table.proofs.Reading.{row_read}

module _ (bytes : List ℕ) (x : ℕ) (z : ℤ) where
  pub length-changed : length (changed bytes x z) ≡ length bytes
  length-changed = length-set (set bytes (2 * x) (get_or (bytes_of z) 0 0)) (2 * x + 1) (get_or (bytes_of z) 1 0) ∙ length-set bytes (2 * x) (get_or (bytes_of z) 0 0)

  pub other_byte : (j : ℕ) → (j ≡ 2 * x → ⊥) → (j ≡ 2 * x + 1 → ⊥) → get_or (changed bytes x z) j 0 ≡ get_or bytes j 0
  other_byte j p q =
      get_or-set_other (set bytes (2 * x) (get_or (bytes_of z) 0 0)) (2 * x + 1) j (get_or (bytes_of z) 1 0) 0 q ∙ get_or-set_other bytes (2 * x) j (get_or (bytes_of z) 0 0) 0 p

  pub other_entry : (y : ℕ) → y ≢ x → entry_at (changed bytes x z) y ≡ entry_at bytes y
  other_entry y ne =
      ap₂ (λ (p q : ℕ). number_of (p ∷ q ∷ []))
      (other_byte (2 * y) (λ e. ne (omega arith)) (λ e. omega arith))
      (other_byte (2 * y + 1) (λ e. omega arith) (λ e. ne (omega arith)))

  pub same_entry : 2 * x + 1 < length bytes → number_of (bytes_of z) ≡ z → entry_at (changed bytes x z) x ≡ z
  same_entry l back =
      ap₂ (λ (p q : ℕ). number_of (p ∷ q ∷ []))
      (get_or-set_other (set bytes (2 * x) (get_or (bytes_of z) 0 0)) (2 * x + 1) (2 * x) (get_or (bytes_of z) 1 0) 0 (λ e. omega arith)
      ∙ get_or-set_same bytes (2 * x) (get_or (bytes_of z) 0 0) 0 (omega arith))
      (get_or-set_same (set bytes (2 * x) (get_or (bytes_of z) 0 0)) (2 * x + 1) (get_or (bytes_of z) 1 0) 0
      (omega (arith, length-set bytes (2 * x) (get_or (bytes_of z) 0 0))))
      ∙ back

  -- an entry that ends within the k data cells leaves the unused bits
  pub buffer_changed : (k : ℕ) → x < k / 16 → Buffer k bytes → Buffer k (changed bytes x z)
  buffer_changed k inside buffer = record {
    sized = length-changed ∙ buffer.sized;
    unused = λ j past l.
        ap (λ (n : ℕ). bit_of n (j % 8)) (other_byte (j / 8) (λ e. omega arith) (λ e. omega arith)) ∙ buffer.unused j past (omega (arith, length-changed));
  }

module _ (b : BookModel) (E i r x : ℕ) (l : i < entries_of b E) (at : Stands b i r x) (v : Float) where
  there : row_number b i < rows_of b
  there = subst (λ (n : ℕ). n < rows_of b) at.row at.there

  inside : index_in b i < per_row b
  inside = subst (λ (n : ℕ). n < per_row b) at.index at.inside

  module _ (bytes : List ℕ) (count : ℕ) (z : ℤ) (is : Ok z ≡ entry_of v) (back : number_of (bytes_of z) ≡ z) (got : RowRead b r bytes (Ok count)) (b' : BookModel) where
    done : {U : Type 0} (a : Result U Refusal) → WriteCall b b' (row_number b i) (changed bytes (index_in b i) z) a → Put b b' E i v a
    done (Ok u) w = (
      l,
      (
        z,
        sym is,
        record {
          bytes = bytes;
          count = count;
          got = row_read b E i r x l at bytes (Ok count) got;
          wrote = w;
          here = same_entry bytes (index_in b i) z (omega (arith, inside, got.call.done.2.sized)) back;
          others = other_entry bytes (index_in b i) z;
          history = λ h led. w.history (read (row_number b i) (room b) ∷ h) led;
        },
      ),
    )
    done (Err e) w =
        let buffer = buffer_changed bytes (index_in b i) z (data_size b) inside got.call.done.2 in
        absurd
        (⊎_elim (λ bad. bad.0 there)
        (λ one. ⊎_elim (λ bad. bad.0 buffer.sized) (λ two. ⊎_elim (λ bad. bad.0 buffer.unused) (λ never. never.1) two.1) one.1)
        w.done.0)

    pub put-done : {U : Type 0} (a : Result U Refusal) (new : List ℕ) → new ≡ changed bytes x z → WriteCall b b' r new a → Put b b' E i v a
    put-done a new e w =
        let one = subst (λ (n : ℕ). WriteCall b b' n new a) at.row w in
        done a (subst (λ (d : List ℕ). WriteCall b b' (row_number b i) d a) (e ∙ ap (λ (y : ℕ). changed bytes y z) at.index) one)
