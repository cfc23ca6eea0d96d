-- The laws of the window and of the interleaver.
use Rattle.std.proofs.Common.{◌≡◌, ℕ, zero, suc, ◌+◌, ◌*◌, ◌/◌, ◌%◌, ◌<◌, sym, ap, ◌∙◌, mul_assoc, mul_comm, add-mul, arith}
use lib.Arith.{digits_lt, digits_div, digits_mod}
use Rattle.memory.specs.Mem.{Layout, Mem}
use Rattle.memory.specs.Lines.{InLine, Interleaved}
use Rattle.layers.specs.Layers.{InterleaverFits, interleaved, crossed, InterleaverLaws}
use Rattle.layers.proofs.Figures.{all_shown, none_shown}

-- the index rule by digits
by_digits : (d w g i j : ℕ) → i < d → j < w → crossed d w ((g * d + i) * w + j) ≡ g * d * w + j * d + i
by_digits d w g i j hi hj =
    let a : ((g * d + i) * w + j) / w ≡ g * d + i = digits_div (g * d + i) hj in
    let b : ((g * d + i) * w + j) % w ≡ j = digits_mod (g * d + i) hj in
    let q : (g * d + i) / d ≡ g = digits_div g hi in
    let r : (g * d + i) % d ≡ i = digits_mod g hi in
    rw (a, b, q, r) (ap (λ n. n + i) (add-mul (g * w) j d ∙ ap (λ n. n + j * d) (mul_assoc g w d ∙ ap (λ n. g * n) (mul_comm w d) ∙ sym (mul_assoc g d w))))

-- in a line, cell k lies k places after cell 0
line_place : (l : Layout) → InLine l → (k : ℕ) → k < l.cells → l.place k ≡ l.place 0 + k
line_place l line zero h = omega arith
line_place l line (suc k) h =
    let e : suc k ≡ k + 1 = omega arith in
    let before : l.place k ≡ l.place 0 + k = line_place l line k (omega arith) in
    ap l.place e ∙ line k (omega arith) ∙ omega arith

-- an interleaver over a line
interleaver_line : (d w : ℕ) (m : Mem) → InterleaverFits d w m.layout.cells → InLine m.layout → Interleaved d w (interleaved d w m).layout
interleaver_line d w m f line = record {
  deep = f.0;
  wide = f.2;
  groups = f.4.0;
  whole = all_shown d w m.layout.cells f ∙ f.4.2;
  first = m.layout.place 0;
  crossed = λ g i j hg hi hj.
      let a : j * d + i < d * w = omega (arith, digits_lt hj hi, mul_comm w d) in
      let b : g * (d * w) + (j * d + i) < f.4.0 * (d * w) = digits_lt hg a in
      ap m.layout.place (by_digits d w g i j hi hj)
      ∙ line_place m.layout line (g * d * w + j * d + i) (omega (arith, b, mul_assoc g d w, f.4.2));
}

pub interleaver_laws : (d w : ℕ) (m : Mem) → InterleaverLaws d w m
interleaver_laws d w m = record {
  fit = all_shown d w m.layout.cells;
  unfit = none_shown d w m.layout.cells;
  cell = λ g i j hi hj. ap m.bit (by_digits d w g i j hi hj);
  place = λ g i j hi hj. ap m.layout.place (by_digits d w g i j hi hj);
  line = interleaver_line d w m;
}
