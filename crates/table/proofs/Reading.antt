-- An entry read, over plain values.
use Rattle.std.proofs.Common.{◌≡◌, ℕ, ◌+◌, ◌*◌, ◌<◌, List, [], ◌∷◌, take, ℤ, Ok, Result, ap, ◌∙◌, subst, ap₂, arith}
use Rattle.std.proofs.lemmas.List.{get_or-take}
use Rattle.refusal.specs.declared.Refusal.{Refusal}
use Rattle.book.specs.Model.{BookModel}
use Rattle.entry.specs.TwosComplement.{number_of}
use Rattle.table.specs.Model.{entries_of, row_number, entry_at}
use Rattle.table.specs.Calls.{Stands, RowRead, EntryGot}

-- an entry that ends within the first n bytes is the same with or without those after them
pub entry_of_first : (n x : ℕ) (bytes : List ℕ) → 2 * x + 1 < n → entry_at (take n bytes) x ≡ entry_at bytes x
entry_of_first n x bytes l = ap₂ (λ (p q : ℕ). number_of (p ∷ q ∷ [])) (get_or-take n bytes (2 * x) 0 (omega arith)) (get_or-take n bytes (2 * x + 1) 0 l)

module _ (b : BookModel) (E i r x : ℕ) (l : i < entries_of b E) (at : Stands b i r x) (bytes : List ℕ) where
  pub row_read : (a : Result ℕ Refusal) → RowRead b r bytes a → RowRead b (row_number b i) bytes a
  row_read a = subst (λ (n : ℕ). RowRead b n bytes a) at.row

  pub entry_got : (count : ℕ) (z : ℤ) → RowRead b r bytes (Ok count) → z ≡ entry_at bytes x → EntryGot b E i (Ok z)
  entry_got count z got is = (l, (bytes, count, row_read (Ok count) got, is ∙ ap (entry_at bytes) at.index))
