-- The laws of the list of cells.
use Rattle.std.proofs.Common.{◌≡◌, ℕ, ◌<◌, Bool, false, cond, eqb, ◌≢◌, map, set, sym, ap, ◌∙◌, ⊎_elim, arith, length-set}
use Rattle.std.specs.List.{range_with_len}
use Rattle.std.proofs.lemmas.List.FromFn.{length-map-range_with_len, get_or-map-range_with_len}
use Rattle.std.proofs.lemmas.List.{ext_get_or, get_or-set_same, get_or-set_other}
use Rattle.std.proofs.lemmas.Bool.{eq-eqb, ne_eqb, cases_eq, cond-true, cond-false}
use Rattle.memory.specs.Mem.{Layout, Mem, Leaves}
use Rattle.memory.specs.Lists.{listed, ListLaws}

-- two functions that agree below n list the same
map_same : (f g : ℕ → Bool) (n : ℕ) → ((k : ℕ) → k < n → f k ≡ g k) → map f (range_with_len 0 n) ≡ map g (range_with_len 0 n)
map_same f g n h =
    ext_get_or false _ _ (length-map-range_with_len f 0 n ∙ sym (length-map-range_with_len g 0 n))
    (λ i lt. let l : i < n = rw (length-map-range_with_len f 0 n) at lt in
    get_or-map-range_with_len f 0 n i i false l (omega arith) ∙ h i l ∙ sym (get_or-map-range_with_len g 0 n i i false l (omega arith)))

leaves_listed : (m m' : Mem) (f : ℕ → Bool) → Leaves m m' f → listed m' ≡ map f (range_with_len 0 m.layout.cells)
leaves_listed m m' f p = ap (λ (l : Layout). map m'.bit (range_with_len 0 l.cells)) p.0 ∙ map_same m'.bit f m.layout.cells p.1

write_listed : (m m' : Mem) (i : ℕ) (v : Bool) → i < m.layout.cells → Leaves m m' (λ k. cond (eqb k i) v (m.bit k)) → listed m' ≡ set (listed m) i v
write_listed m m' i v h p =
    leaves_listed m m' (λ k. cond (eqb k i) v (m.bit k)) p ∙ ext_get_or false _ _
    (length-map-range_with_len _ 0 n ∙ sym (length-set (listed m) i v ∙ length-map-range_with_len m.bit 0 n))
    (λ k lt. let l : k < n = rw (length-map-range_with_len (λ j. cond (eqb j i) v (m.bit j)) 0 n) at lt in
    get_or-map-range_with_len _ 0 n k k false l (omega arith) ∙ ⊎_elim
    (λ (e : k ≡ i). cond-true _ _ _ (eq-eqb k i e) ∙ sym (rw e (get_or-set_same (listed m) i v false (rw (length-map-range_with_len m.bit 0 n) h))))
    (λ (e : k ≢ i). cond-false _ _ _ (ne_eqb k i e) ∙ sym (get_or-set_other (listed m) i k v false e ∙ get_or-map-range_with_len m.bit 0 n k k false l (omega arith)))
    (cases_eq k i))
  where
    n : ℕ
    n = m.layout.cells

pub list_laws : ListLaws
list_laws = record {
  count = λ m. length-map-range_with_len m.bit 0 m.layout.cells;
  write = write_listed;
  keep = λ m m' p. leaves_listed m m' m.bit p;
}
