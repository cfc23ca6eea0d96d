-- A row gathered, corrected and laid down, over plain values.
use Rattle.std.proofs.Common.{◌≡◌, ℕ, ◌+◌, ◌*◌, ◌<◌, ◌≤◌, Bool, List, [], Ok, Err, Result, sym, refl, ◌∙◌, subst, inl, inr, ⊎_elim, arith}
use Rattle.refusal.specs.Order.{Unless, Never}
use Rattle.refusal.specs.declared.Refusal.{Refusal}
use Rattle.refusal.specs.declared.Refusal.TheVariants.{NoCodeRow}
use Rattle.bits.specs.Bits.{bit_at, Sized, Buffer}
use Rattle.memory.specs.Mem.{Mem, Unchanged}
use Rattle.galois.specs.Model.{FieldLaws}
use Rattle.galois.specs.Rows.{Few, Near, cell_of, distance}
use Rattle.galois.proofs.Least.{rows_apart}
use Rattle.bch.specs.Buffers.{shown}
use Rattle.bch.specs.Calls.{Encoded, Extracted}
use Rattle.bch.proofs.Encoding.{cell-shown}
use Rattle.rows.specs.Laid.{run, Laid, Gathered, Scattered}
use Rattle.corrector.specs.Corrected.{Corrected}
use Rattle.book.specs.Model.{BookModel, reach_of, row_size, data_size}
use Rattle.book.specs.Calls.{row_cells, InReach, Begun, Copied, RowLaid, Wrote, Looked, Mended}
use Rattle.book.proofs.Effective.{reach_within, row_room}

-- the only code row within t is past the reach: a copy of the row that begins at cell a is refused
module _ (b : BookModel) (laws : FieldLaws b.field) (a n : ℕ) (size : n ≡ row_size b) (before copy after : List ℕ) (u : Unit {0}) (count : ℕ)
    (gathered : Gathered b.memory a n before copy (Ok u)) (corrected : Corrected b.field b.strength copy after (Ok count)) where
  pub past_reach : reach_of b < count → Copied b a before after (Err NoCodeRow)
  past_reach high =
      let m = subst (λ (q : ℕ). Gathered b.memory a q before copy (Ok u)) size gathered in
      let far : (c : List Bool) → InReach b (run b.memory a (row_size b)) c → ⊥ =
      λ c v.
      let near : Near b.field b.strength (shown (row_size b) copy) c = record { code = v.code; close = rw m.3 (omega (arith, v.close, reach_within b)) } in
      let same : shown (row_size b) after ≡ c = (rows_apart b.field laws b.strength).one_near (shown (row_size b) copy) (shown (row_size b) after) c corrected.2 near in
      let d : distance (run b.memory a (row_size b)) c ≡ count = sym (rw (m.3, same) at corrected.3) in
      omega (arith, v.close) in
      inr (m.1, inr (m.0, inl (λ v. far v.0 v.1, refl)))

-- a row laid down from a buffer shows what the buffer shows
pub laid_row : (a n : ℕ) (cells : List ℕ) (m m' : Mem) → Laid a n (bit_at 8 cells) m m' → Laid a n (cell_of (shown n cells)) m m'
laid_row a n cells m m' p = record { layout = p.layout; here = λ j h. p.here j h ∙ sym (cell-shown n cells j h); there = p.there; beneath = p.beneath }

pub as_was : (m : Mem) → Unchanged m m
as_was m = ((refl, λ k h. refl), λ x h. refl)

-- a row that begins at cell a
module _ (b : BookModel) (r a : ℕ) (begun : Begun b r (Ok a)) where
  room : a + row_size b ≤ b.memory.layout.cells
  room = rw begun.1 (row_room b r begun.0)

  copied : (before after : List ℕ) (x : Result ℕ Refusal) → Copied b a before after x → Copied b (r * row_size b) before after x
  copied before after x = subst (λ (q : ℕ). Copied b q before after x) begun.1

  -- a copy is refused only where there is no code row
  far : (before after : List ℕ) (e : Refusal) → Sized (row_size b) before → Copied b a before after (Err e)
      → Unless ((c : List Bool) × InReach b (row_cells b r) c) NoCodeRow Never e
  far before after e sized m =
      ⊎_elim (λ bad. absurd (bad.0 sized)) (λ long. ⊎_elim (λ bad. absurd (bad.0 (row_room b r begun.0))) (λ more. more.1) long.1) (copied before after (Err e) m)

  -- a buffer scattered is a row laid down, and is not refused
  module _ (b' : BookModel) (n : ℕ) (size : n ≡ row_size b) (cells : List ℕ) (buffer : Buffer (row_size b) cells) where
    pub laid : (u : Unit {0}) → Scattered b.memory b'.memory a n cells (Ok u) → RowLaid b b' r (shown (row_size b) cells)
    laid u m =
        let here = (subst (λ (q : ℕ). Scattered b.memory b'.memory a q cells (Ok u)) size m).2 in
        laid_row (r * row_size b) (row_size b) cells b.memory b'.memory (subst (λ (q : ℕ). Laid q (row_size b) (bit_at 8 cells) b.memory b'.memory) begun.1 here)

    pub always_laid : (e : Refusal) → Scattered {U = Unit {0}} b.memory b'.memory a n cells (Err e) → ⊥
    always_laid e m =
        let why = (subst (λ (q : ℕ). Scattered {U = Unit {0}} b.memory b'.memory a q cells (Err e)) size m).0 in
        ⊎_elim (λ bad. bad.0 buffer.sized) (λ long. ⊎_elim (λ bad. bad.0 room) (λ never. never.1) long.1) why

  pub not_encoded : (t : ℕ) (bytes before cells : List ℕ) (e : Refusal) → t ≡ b.strength → Few b.strength → Sized (row_size b) before
      → Encoded {U = Unit {0}} b.field t bytes before cells (Err e) → Wrote {U = Unit {0}} b b r bytes (Err e)
  not_encoded t bytes before cells e et few sized encoded =
      let why = (subst (λ (q : ℕ). Encoded {U = Unit {0}} b.field q bytes before cells (Err e)) et encoded).0 in (
        inr (
          begun.0,
          ⊎_elim (λ bad. absurd (bad.0 few))
              (λ rest. ⊎_elim (λ bad. inl (λ s. bad.0 (s, sized), bad.1)) (λ more. inr (more.0.0, more.1)) rest.1)
              why,
        ),
        as_was b.memory,
      )

  pub wrote : (b' : BookModel) (n t : ℕ) → n ≡ row_size b → t ≡ b.strength → (bytes before cells : List ℕ) (u : Unit {0})
      → Encoded b.field t bytes before cells (Ok u) → (x : Result (Unit {0}) Refusal) → Scattered b.memory b'.memory a n cells x → Wrote b b' r bytes x
  wrote b' n t size et bytes before cells u encoded (Ok v) m =
      let e = subst (λ (q : ℕ). Encoded b.field q bytes before cells (Ok u)) et encoded in
      (begun.0, e.1, (shown (row_size b) cells, e.4, laid b' n size cells e.3 v m))
  wrote b' n t size et bytes before cells u encoded (Err e) m = absurd (always_laid b' n size cells encoded.3 e m)

  pub not_mended : (before cells : List ℕ) (e : Refusal) → Sized (row_size b) before → Copied b a before cells (Err e) → Mended b b r (Err e)
  not_mended before cells e sized m = (inr (begun.0, far before cells e sized m), as_was b.memory)

  pub mended : (b' : BookModel) (n : ℕ) → n ≡ row_size b → (cells : List ℕ) (count : ℕ) → Copied b a [] cells (Ok count)
      → (u : Unit {0}) → Scattered b.memory b'.memory a n cells (Ok u) → Mended b b' r (Ok count)
  mended b' n size cells count m u row =
      let c = copied [] cells (Ok count) m in (begun.0, (shown (row_size b) cells, c.1, laid b' n size cells m.0 u row, c.2))

  -- what a read does
  module _ (before : List ℕ) (k : ℕ) (size : k ≡ data_size b) (sized : Sized k before) where
    fit : Sized (data_size b) before
    fit = subst (λ (q : ℕ). Sized q before) size sized

    pub not_found : (empty cells : List ℕ) (e : Refusal) → Sized (row_size b) empty → Copied b a empty cells (Err e) → Looked b r before before (Err e)
    not_found empty cells e long m = (inr (begun.0, inr (fit, far empty cells e long m)), refl)

    pub looked : (t : ℕ) → t ≡ b.strength → (cells after : List ℕ) (count : ℕ) (u : Unit {0}) → Copied b a [] cells (Ok count)
        → Extracted b.field t cells before after (Ok u) → Looked b r before after (Ok count)
    looked t et cells after count u m extracted =
        let x = subst (λ (q : ℕ). Extracted b.field q cells before after (Ok u)) et extracted in
        let c = copied [] cells (Ok count) m in
        (begun.0, fit, x.3, (shown (row_size b) cells, c.1, x.4, c.2))
