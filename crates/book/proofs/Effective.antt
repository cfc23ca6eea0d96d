-- What effective figures keep to, whether or not the figures fit.
use Rattle.std.proofs.Common.{◌≡◌, ℕ, ◌+◌, ◌*◌, ◌<◌, ◌≤◌, Bool, true, false, cond, refl, mul-le-mul_right, suc-mul, zero-mul, arith}
use Rattle.std.proofs.lemmas.Bool.Decides.{nat_tests}
use Rattle.galois.specs.Model.{FieldLaws}
use Rattle.galois.specs.Rows.{Few}
use Rattle.bch.proofs.Counts.{units_lt}
use Rattle.tally.specs.Damage.{Lawful}
use Rattle.tally.proofs.Fields.{field_codes}
use Rattle.book.specs.Model.{BookModel, figures_test, setting, rows_of, reach_of, row_size}

module _ (n t s R N : ℕ) where
  reach_test : cond (figures_test n t s R N) s 0 ≤ t
  reach_test = grind (arith, nat_tests)

  few_test : cond (figures_test n t s R N) R 0 ≤ 1024
  few_test = grind (arith, nat_tests)

  room_go : (h : Bool) → figures_test n t s R N ≡ h → cond h R 0 * n ≤ N
  room_go true e = grind (arith, nat_tests)
  room_go false e = omega (arith, zero-mul n)

module _ (b : BookModel) where
  pub reach_within : reach_of b ≤ b.strength
  reach_within = reach_test (row_size b) b.strength b.reach b.rows b.memory.layout.cells

  pub rows_few : rows_of b ≤ 1024
  rows_few = few_test (row_size b) b.strength b.reach b.rows b.memory.layout.cells

  pub rows_room : rows_of b * row_size b ≤ b.memory.layout.cells
  rows_room = room_go (row_size b) b.strength b.reach b.rows b.memory.layout.cells _ refl

  module _ (r : ℕ) (l : r < rows_of b) where
    -- a row ends within the cells of the rows
    pub row_ends : r * row_size b + row_size b ≤ rows_of b * row_size b
    row_ends = omega (arith, suc-mul r (row_size b), mul-le-mul_right (row_size b) l)

    pub row_room : r * row_size b + row_size b ≤ b.memory.layout.cells
    row_room = omega (arith, row_ends, rows_room)

    pub row_first : FieldLaws b.field → r * row_size b < 262144
    row_first laws =
        let small = units_lt b.field laws in
        let few : r * row_size b ≤ 1024 * row_size b = mul-le-mul_right (row_size b) (let le : r ≤ 1024 = omega (arith, rows_few) in le) in
        omega arith

  -- the tally's laws hold of every book
  pub book_lawful : FieldLaws b.field → Few b.strength → Lawful (setting b)
  book_lawful laws few = (field_codes b.field laws b.strength few).lawful (reach_of b) (rows_of b) b.memory.layout reach_within rows_room
