-- Lemmas: the window and the interleaver show cells below, no two of them the same. Nothing here has to be believed.
use Rattle.std.specs.Prelude.{◌≡◌, ℕ, zero, suc, ◌+◌, ◌-◌, ◌*◌, ◌/◌, ◌%◌, ◌<◌, ◌≤◌, true}
use Rattle.std.proofs.Common.{sym, ap, zero, suc, ◌∙◌, mul_comm, mul_assoc, arith}
use Rattle.std.proofs.Math.Arith.{digits_lt, digits_div, digits_mod}
use Rattle.std.proofs.lemmas.Nat.{div-add-mod', div_below, mod_below}
use Rattle.std.proofs.lemmas.Bool.{cond_both}
use Rattle.std.proofs.lemmas.Bool.Decides.{nat_tests}
use Rattle.memory.specs.Layered.{Picks}
use Rattle.layers.specs.Layers.{WindowFits, window_test, window_size, InterleaverFits, interleaver_test, interleaver_size, crossed}

pub window_figures : (c l n : ℕ) → window_test c l n ≡ true → WindowFits c l n
window_figures c l n e = grind (arith, nat_tests)

pub window_picks : (c l n : ℕ) → Picks (window_size c l) (λ n k. c + k) n
window_picks c l n = record {
  few = grind (arith, nat_tests);
  into = λ k h. grind (arith, nat_tests);
  once = λ i j hi hj e. omega arith;
}

some_groups : (q x n : ℕ) → n ≡ q * x → 0 < n → 1 ≤ q
some_groups zero x n e h = absurd (omega arith)
some_groups (suc q) x n e h = omega arith

-- what leaves no rest is one or more whole groups of x
pub in_groups : (x n : ℕ) → 1 ≤ n → n % x ≡ 0 → (q : ℕ) × (1 ≤ q) × (n ≡ q * x)
in_groups x n h e =
    let whole : n ≡ n / x * x = omega (arith, div-add-mod' n x) in
    (n / x, some_groups (n / x) x n whole h, whole)

pub interleaver_fits : (d w n : ℕ) → interleaver_test d w n ≡ true → InterleaverFits d w n
interleaver_fits d w n e =
    let f : (1 ≤ d) × (d ≤ 16) × (1 ≤ w) × (w ≤ 255) × (1 ≤ n) × (n % (d * w) ≡ 0) = grind (arith, nat_tests) in
    (f.0, f.1, f.2, f.3, in_groups (d * w) n f.4 f.5)

-- a cell of the interleaver shows that the figures fit
pub inside : (d w n k : ℕ) → k < interleaver_size d w n → (k < n) × InterleaverFits d w n
inside d w n k =
    cond_both (interleaver_test d w n) n 0 (λ s. k < s → (k < n) × InterleaverFits d w n) (λ e h. (h, interleaver_fits d w n e)) (λ e h. absurd (omega arith))

module _ (d w : ℕ) (dp : 0 < d) (wp : 0 < w) where
  -- crossing w rows of d takes a cell back
  crossed-back : (k : ℕ) → crossed w d (crossed d w k) ≡ k
  crossed-back k =
      let row : crossed d w k / d ≡ k / w / d * w + k % w = digits_div _ (mod_below (k / w) d dp) in
      let i : crossed d w k % d ≡ k / w % d = digits_mod _ (mod_below (k / w) d dp) in
      let g : (k / w / d * w + k % w) / w ≡ k / w / d = digits_div _ (mod_below k w wp) in
      let j : (k / w / d * w + k % w) % w ≡ k % w = digits_mod _ (mod_below k w wp) in
      rw (row, i, g, j) (ap (λ n. n * w + k % w) (div-add-mod' (k / w) d) ∙ div-add-mod' k w)

  crossed-once : (i j : ℕ) → crossed d w i ≡ crossed d w j → i ≡ j
  crossed-once i j e = sym (crossed-back i) ∙ ap (crossed w d) e ∙ crossed-back j

  -- the column that cell k is laid down in ends among the n cells,
  column_below : (n q k : ℕ) → n ≡ q * (d * w) → k < n → (k / w / d * w + k % w) * d + d ≤ n
  column_below n q k e h =
      let e1 : n ≡ q * d * w = e ∙ sym (mul_assoc q d w) in
      let e2 : q * w * d ≡ n = mul_assoc q w d ∙ ap (λ x. q * x) (mul_comm w d) ∙ sym e in
      let g : k / w / d < q = div_below (k / w) d q dp (div_below k w (q * d) wp (omega arith)) in
      let r : k / w / d * w + k % w < q * w = digits_lt g (mod_below k w wp) in
      let t : (k / w / d * w + k % w) * d + (d - 1) < q * w * d = digits_lt r (omega arith) in
      omega arith

  -- and so does the cell
  crossed-below : (n q k : ℕ) → n ≡ q * (d * w) → k < n → crossed d w k < n
  crossed-below n q k e h = omega (arith, column_below n q k e h, mod_below (k / w) d dp)

pub column_fits : (d w n k : ℕ) → k < interleaver_size d w n → (k / w / d * w + k % w) * d + d ≤ n
column_fits d w n k h = let s = inside d w n k h in let f = s.1 in column_below d w f.0 f.2 n f.4.0 k f.4.2 s.0

pub interleaver_picks : (d w n : ℕ) → Picks (interleaver_size d w) (λ n k. crossed d w k) n
interleaver_picks d w n = record {
  few = grind (arith, nat_tests);
  into = λ k h. let s = inside d w n k h in let f = s.1 in crossed-below d w f.0 f.2 n f.4.0 k f.4.2 s.0;
  once = λ i j hi hj e. let f = (inside d w n i hi).1 in crossed-once d w f.0 f.2 i j e;
}
