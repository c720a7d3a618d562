-- Who stands on a path.
use Rattle.std.proofs.Common.{◌≡◌, ℕ, suc, ◌+◌, ◌-◌, ◌<◌, ◌≤◌, Bool, eqb, List, [], ◌∷◌, ◌++◌, filter, sym, refl, ap, ◌∙◌, subst, inl, inr, append_assoc, append-nil, arith}
use mathlib.Core.List.Memᴰ
use mathlib.Core.List.{append_cancel_left}
use Rattle.std.specs.List.{range_with_len, AllByRecursion}
use Rattle.std.proofs.lemmas.Bool.{cond-true, eq-eqb, eqb-true}
use Rattle.std.proofs.lemmas.List.Elements.{filter-append}
use Rattle.picture.specs.Nodes.{Nodes, children, climb, above, path, Tree}
use Rattle.picture.specs.Brackets.{In}
use Rattle.picture.proofs.Paths.{Child, above_child, child_gt, by_parents}
use Rattle.picture.proofs.Lists.{counted_append, all_counted}

-- a child n of p among its siblings: smaller ones before it, and greater ones after it
pub record Siblings {Item : Type 0} (d : Nodes Item) (p n : ℕ) : Type 0 where
  pub left : List ℕ
  pub right : List ℕ
  pub is : children d p ≡ left ++ n ∷ right
  pub lefts : AllByRecursion (λ k. Child d p k × (k < n)) left
  pub rights : AllByRecursion (λ k. Child d p k × (n < k)) right

pub siblings : {Item : Type 0} (d : Nodes Item) (p n : ℕ) → Child d p n → Siblings d p n
siblings d p n c =
    let test : ℕ → Bool = λ k. eqb (d.parent k) p in
    let right : List ℕ = range_with_len (n + 1) (d.count - (n + 1)) in
    let len : d.count - 1 ≡ (n - 1) + suc (d.count - (n + 1)) = omega (arith, c.low, c.high) in
    let at : 1 + (n - 1) ≡ n = omega (arith, c.low) in
    record {
      left = filter test (range_with_len 1 (n - 1));
      right = filter test right;
      is =
          ap (filter test) (ap (range_with_len 1) len ∙ counted_append 1 (n - 1) (suc (d.count - (n + 1))) ∙ ap (λ (b : ℕ). range_with_len 1 (n - 1) ++ range_with_len b (suc (d.count - (n + 1)))) at)
          ∙ filter-append test (range_with_len 1 (n - 1)) (n ∷ right)
          ∙ ap (λ (ks : List ℕ). filter test (range_with_len 1 (n - 1)) ++ ks) (cond-true (test n) _ _ (eq-eqb _ _ c.parent));
      lefts = all_counted (λ k. Child d p k × (k < n)) test 1 (n - 1) (λ k lo hi e. (record { low = omega arith; high = omega (arith, c.high); parent = eqb-true (d.parent k) p e }, omega (arith, c.low)));
      rights = all_counted (λ k. Child d p k × (n < k)) test (n + 1) (d.count - (n + 1)) (λ k lo hi e. (record { low = omega arith; high = omega (arith, c.high); parent = eqb-true (d.parent k) p e }, omega arith));
    }

pub self_in : {Item : Type 0} (d : Nodes Item) (n : ℕ) → In n (path d n)
self_in d n = Memᴰ.append_right (above d n) (Memᴰ.head refl)

module _ {Item : Type 0} (d : Nodes Item) (L : ℕ) (tree : Tree d L) where
  -- what holds of n, and of each child of a node below n where it holds of that, holds of each node below n
  below : (P : ℕ → Type 0) (n : ℕ) → P n → ((p m : ℕ) → Child d p m → P p → P m) → (m : ℕ) → m < d.count → In n (path d m) → P m
  unfolding climb
  below P n here step =
      by_parents d L tree (λ m. In n (path d m) → P m) (λ i. subst P (Memᴰ.eq_of_singleton i) here)
      (λ p m c ih i. elim (Memᴰ.append_cases (above d m) i) [
        | inr j ↦ subst P (Memᴰ.eq_of_singleton j) here
        | inl j ↦ step p m c (ih (subst (In n) (above_child d L tree p m c) j))
      ])

  -- no path has a greater number than its last
  pub in_le : (n m : ℕ) → m < d.count → In n (path d m) → n ≤ m
  in_le n = below (λ m. n ≤ m) n (omega arith) (λ p m c le. omega (arith, child_gt d L tree p m c))

  pub above_lt : (n m : ℕ) → m < d.count → In n (above d m) → n < m
  unfolding climb
  above_lt n =
      by_parents d L tree (λ m. In n (above d m) → n < m) (λ i. absurd (Memᴰ.not-nil i))
      (λ p m c ih i.
      let lt : p < m = child_gt d L tree p m c in
      let le : n ≤ p = in_le n p (omega (arith, c.high)) (subst (In n) (above_child d L tree p m c) i) in
      omega arith)

  -- the path to a node goes on from the path to each node on it
  prefix : (k m : ℕ) → m < d.count → In k (path d m) → (r : List ℕ) × (path d m ≡ path d k ++ r)
  prefix k =
      below (λ m. (r : List ℕ) × (path d m ≡ path d k ++ r)) k ([], sym (append-nil (path d k)))
      (λ p m c q. (q.0 ++ m ∷ [], ap (λ (ks : List ℕ). ks ++ m ∷ []) (above_child d L tree p m c ∙ q.1) ∙ append_assoc (path d k) q.0 (m ∷ [])))

  -- what is below a child is below its parent
  pub parent_above : (n k m : ℕ) → Child d n k → m < d.count → In k (path d m) → In n (above d m)
  parent_above n k m c l i =
      let r : (r : List ℕ) × (path d m ≡ path d k ++ r) = prefix k m l i in
      let j : In n (path d k) = Memᴰ.append_left (k ∷ []) (subst (In n) (sym (above_child d L tree n k c)) (self_in d n)) in
      let q : In n (path d m) = subst (In n) (sym r.1) (Memᴰ.append_left r.0 j) in
      let le : k ≤ m = in_le k m l i in
      let lt : n < k = child_gt d L tree n k c in
      elim (Memᴰ.append_cases (above d m) q) [
        | inl x ↦ x
        | inr x ↦ let e : n ≡ m = Memᴰ.eq_of_singleton x in absurd (omega arith)
      ]

  pub parent_in : (n k m : ℕ) → Child d n k → m < d.count → In k (path d m) → In n (path d m)
  parent_in n k m c l i = Memᴰ.append_left (m ∷ []) (parent_above n k m c l i)

  -- nothing is below two children of one node
  pub same_child : (n k j m : ℕ) → Child d n k → Child d n j → m < d.count → In k (path d m) → In j (path d m) → k ≡ j
  same_child n k j m a b l x y =
      let r : (r : List ℕ) × (path d m ≡ path d k ++ r) = prefix k m l x in
      let q : (r : List ℕ) × (path d m ≡ path d j ++ r) = prefix j m l y in
      let g : n ∷ k ∷ r.0 ≡ n ∷ j ∷ q.0 = append_cancel_left (above d n) (n ∷ k ∷ r.0) (n ∷ j ∷ q.0) (simp (append_assoc, above_child d L tree n k a, above_child d L tree n j b) at (sym r.1 ∙ q.1)) in
      cc
