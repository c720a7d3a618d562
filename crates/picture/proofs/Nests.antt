-- The nest of a node: step by step, and balanced.
use Rattle.std.proofs.Common.{◌≡◌, ℕ, zero, suc, Bool, true, false, cond, List, [], ◌∷◌, filter, sym, refl, ap, ◌∙◌, inl, inr}
use Rattle.std.specs.List.{flat_map, AllByRecursion}
use Rattle.std.proofs.lemmas.Bool.{cases_Bool, cond-true, cond-false, both_ways}
use Rattle.picture.specs.Script.{Script, within, Balanced}
use Rattle.picture.specs.Script.Event.{marked}
use Rattle.picture.specs.Script.Balanced.{nothing, one_mark}
use Rattle.picture.specs.Nodes.{Nodes, children, order, Tree}
use Rattle.picture.specs.Rules.{Rules, leaf_at, drawn_at, groups_at, inside_at, mark_at, BareLeaves, nest}
use Rattle.picture.specs.Document.{shown}
use Rattle.picture.proofs.Lists.{kept_joined, joined_none}
use Rattle.picture.proofs.Scripts.{balanced_within, balanced_joined}
use Rattle.picture.proofs.Paths.{Child, children_are, drawn_child, not_shown}

module _ {Item State Group Mark : Type 0} (R : Rules Item State Group Mark) (d : Nodes Item) where
  -- what stands between the groups of n: its mark, or the nests of its children
  abbrev pub content : ℕ → ℕ → State → Script Group Mark
  content l n s = cond (leaf_at R d n) (marked (mark_at R d n s) ∷ []) (flat_map (λ k. nest R d l k (inside_at R d n s)) (children d n))

  pub nest_drawn : (l n : ℕ) (s : State) → drawn_at R d n ≡ true → nest R d (suc l) n s ≡ within (groups_at R d n s) (content l n s)
  unfolding nest
  nest_drawn l n s e = cond-true (drawn_at R d n) _ _ e

  pub balanced_content : (l n : ℕ) (s : State) → ((k : ℕ) (u : State) → Balanced (nest R d l k u)) → Balanced (content l n s)
  balanced_content l n s h = elim (cases_Bool (leaf_at R d n)) [
    | inl e ↦ simp e (one_mark (mark_at R d n s))
    | inr e ↦ simp e (balanced_joined (λ k. nest R d l k (inside_at R d n s)) (λ k. h k (inside_at R d n s)) (children d n))
  ]

  pub balanced_nest : (l n : ℕ) (s : State) → Balanced (nest R d l n s)
  unfolding nest
  balanced_nest zero n s = nothing
  balanced_nest (suc l) n s = elim (cases_Bool (drawn_at R d n)) [
    | inl e ↦ simp e (balanced_within (groups_at R d n s) (balanced_content l n s (λ k u. balanced_nest l k u)))
    | inr e ↦ simp e nothing
  ]

  -- a leaf has no children
  pub leaf_alone : BareLeaves R d → (n : ℕ) → leaf_at R d n ≡ true → children d n ≡ []
  leaf_alone bare n e = go (children d n) (children_are d n)
    where
      go : (ks : List ℕ) → AllByRecursion (Child d n) ks → ks ≡ []
      go [] a = refl
      go (k ∷ ks) a = absurd (both_ways (leaf_at R d n) (ap (leaf_at R d) (sym a.0.parent) ∙ bare k a.0.low a.0.high) e)

-- nothing below a node that is not shown is kept by a test that only shown nodes pass
pub none_kept : {Item State Group Mark : Type 0} (R : Rules Item State Group Mark) (d : Nodes Item) (L : ℕ) → Tree d L → (p : ℕ → Bool) → ((n : ℕ) → shown R d n ≡ false → p n ≡ false) → (l n : ℕ) → shown R d n ≡ false → filter p (order d l n) ≡ []
unfolding order
none_kept R d L tree p h zero n e = refl
none_kept R d L tree p h (suc l) n e =
    cond-false (p n) _ _ (h n e)
    ∙ kept_joined p (λ k. order d l k) (children d n)
    ∙ joined_none (Child d n) (λ k. filter p (order d l k)) (children d n) (children_are d n) (λ k c. none_kept R d L tree p h l k (not_shown R d k (inl (drawn_child R d L tree n k c ∙ e))))
