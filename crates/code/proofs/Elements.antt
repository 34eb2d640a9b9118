-- The elements of a field as a type of their own, over which its laws hold with no condition. Assumes nothing.
use Rattle.std.proofs.Common.{◌≡◌, ℕ, zero, suc, Bool, true, false, cond, ltb, refl, ap, ◌∙◌, ap₂, arith}
use mathlib.Core.Path.{fun_ext}
use Prim.Native.Nat.{Fin}
use Rattle.field.specs.Field.{Ops, Lawful, sum_of, negative_of, product_of, inverse_of}
use Rattle.field.specs.Rows.{Arith, numbers, dot, minus}
use Rattle.field.proofs.Total.{
  zero-element,
  one-element,
  sum_of-element,
  negative_of-element,
  product_of-element,
  inverse_of-element,
  sum_of_comm,
  sum_of_assoc,
  sum_of-zero,
  sum_of-negative,
  product_of_comm,
  product_of_assoc,
  product_of-one,
  product_of-inverse,
  product_of-sum,
}
use Rattle.code.specs.Packets.{packet}
use Rattle.code.specs.Solving.{away, slope, scale, part}
use Rattle.code.proofs.Ring.{Laws}

module _ {o : Ops} (L : Lawful o) where
  abbrev pub Element : Type 0
  Element = Fin o.size

  abbrev pub elements : Arith Element
  elements = record {
    𝟘 = (0, zero-element L);
    𝟙 = (1, one-element L);
    ◌⊕◌ = λ a b. (sum_of o a.0 b.0, sum_of-element L a.0 b.0);
    neg = λ a. (negative_of o a.0, negative_of-element L a.0);
    ◌⊗◌ = λ a b. (product_of o a.0 b.0, product_of-element L a.0 b.0);
    inv = λ a. (inverse_of o a.0, inverse_of-element L a.0);
  }

  pub laws : Laws elements
  laws = record {
    sum_comm = λ a b. native.Mathlib.Fin.val_path (sum_of_comm L a.0 b.0);
    sum_assoc = λ a b e. native.Mathlib.Fin.val_path (sum_of_assoc L a.0 b.0 e.0);
    sum_zero = λ a. native.Mathlib.Fin.val_path (sum_of-zero L a.0 a.1);
    sum_negative = λ a. native.Mathlib.Fin.val_path (sum_of-negative L a.0);
    product_comm = λ a b. native.Mathlib.Fin.val_path (product_of_comm L a.0 b.0);
    product_assoc = λ a b e. native.Mathlib.Fin.val_path (product_of_assoc L a.0 b.0 e.0);
    product_one = λ a. native.Mathlib.Fin.val_path (product_of-one L a.0 a.1);
    product_inverse = λ a n. native.Mathlib.Fin.val_path (product_of-inverse L a.0 a.1 (λ e. n (native.Mathlib.Fin.val_path e)));
    product_sum = λ a b e. native.Mathlib.Fin.val_path (product_of-sum L a.0 b.0 e.0);
    one-zero = λ e. omega (arith, ap (λ z. z.0) e);
  }

  -- what is computed of elements is computed of their numbers
  abbrev pub nums : (ℕ → Element) → ℕ → ℕ
  nums f j = (f j).0

  cond_num : (b : Bool) (s t : Element) → (cond b s t).0 ≡ cond b s.0 t.0
  cond_num true s t = refl
  cond_num false s t = refl

  dot_num : (c y : ℕ → Element) (m : ℕ) → (dot elements c y m).0 ≡ dot (numbers o) (nums c) (nums y) m
  dot_num c y zero = refl
  dot_num c y (suc m) = cc (dot_num c y m)

  away_num : (d : ℕ → Element) (m : ℕ) (c : Element) → (away elements d m c).0 ≡ away (numbers o) (nums d) m c.0
  unfolding minus
  away_num d zero c = refl
  away_num d (suc m) c = cc (away_num d m c)

  slope_num : (d : ℕ → Element) (m : ℕ) (c : Element) → (slope elements d m c).0 ≡ slope (numbers o) (nums d) m c.0
  unfolding minus
  slope_num d zero c = refl
  slope_num d (suc m) c = cc (away_num d m c, slope_num d m c)

  pub packet_num : (x : ℕ → Element) (m : ℕ) (u : ℕ → Element) (n : ℕ) → (packet elements x m u n).0 ≡ packet (numbers o) (nums x) m (nums u) n
  unfolding minus
  packet_num x m u n =
      let row : ℕ → Element = λ j. elements.inv (minus elements (x n) (x j)) in
      cond_num (ltb n m) (u n) (dot elements row u m) ∙ ap (cond (ltb n m) (u n).0) (dot_num row u m)

  scale_num : (x : ℕ → Element) (m n : ℕ) → (scale elements x m n).0 ≡ scale (numbers o) (nums x) m n
  scale_num x m n =
      cond_num (ltb n m) (slope elements x m (x n)) (away elements x m (x n)) ∙ ap₂ (cond (ltb n m)) (slope_num x m (x n)) (away_num x m (x n))

  part_num : (x : ℕ → Element) (m : ℕ) (ns : ℕ → ℕ) (n t : ℕ) → (part elements x m ns n t).0 ≡ part (numbers o) (nums x) m ns n t
  unfolding minus
  part_num x m ns n t =
      let d : ℕ → Element = λ s. x (ns s) in
      cc (scale_num x m n, scale_num x m (ns t), away_num d m (x n), slope_num d m (x (ns t)))

  pub parts_num : (x : ℕ → Element) (m : ℕ) (ns : ℕ → ℕ) (n : ℕ) (y : ℕ → Element)
      → (dot elements (part elements x m ns n) y m).0 ≡ dot (numbers o) (part (numbers o) (nums x) m ns n) (nums y) m
  parts_num x m ns n y = dot_num (part elements x m ns n) y m ∙ ap (λ c. dot (numbers o) c (nums y) m) (fun_ext (part_num x m ns n))
