-- The sample document, and that scripts which are not its own are told apart.
use Rattle.std.proofs.Common.{◌≡◌, ℕ, zero, suc, ◌<◌, List, [], ◌∷◌, ◌++◌, length, sym, refl, ap, ◌∙◌, subst, append_assoc, append-nil, arith, None, Some, Option}
use mathlib.Core.List.Memᴰ
use Rattle.std.specs.List.{AllByRecursion}
use Rattle.picture.specs.Script.{Event, Script, Balanced}
use Rattle.picture.specs.Script.Event.{opened, marked, closed}
use Rattle.picture.specs.Picture.{picture}
use Rattle.picture.specs.Outline.{Start, outline}
use Rattle.picture.specs.Nodes.{climb, above, path, order, Tree}
use Rattle.picture.specs.Rules.{nest}
use Rattle.picture.specs.Document.{document_picture, document_outline}
use Rattle.picture.specs.Brackets.{Owned, In, Inside, Outside, Stretch}
use Rattle.picture.specs.Sample.{sample, split, early, late, left_out, twice, owned_group, SampleIsSeen, BadScriptsAreToldApart}
use Rattle.picture.proofs.Scripts.{balanced_from_count, count_from_balanced}

sample_tree : Tree sample 2
unfolding climb
sample_tree = record { root = omega arith; before = before; levels = levels }
  where
    before : (k : ℕ) → 0 < k → k < 3 → 0 < k
    before k h l = h

    levels : (k : ℕ) → k < 3 → length (above sample k) < 2
    levels zero l = omega arith
    levels (suc zero) l = omega arith
    levels (suc (suc zero)) l = omega arith
    levels (suc (suc (suc k))) l = absurd (omega arith)

pub sample_is_seen : SampleIsSeen
unfolding nest picture
sample_is_seen = (sample_tree, (λ k h l. refl), refl, refl, refl, refl)

-- how deep the last start stands
abbrev last_depth : List (Start ℕ ℕ) → ℕ
last_depth [] = 0
last_depth (x ∷ []) = length x.chain
last_depth (x ∷ (y ∷ ys)) = last_depth (y ∷ ys)

-- NO STRETCHES

abbrev Tape : Type 0
Tape = Script (Owned ℕ) (Owned ℕ)

abbrev a : Owned ℕ
a = owned_group 0 5

abbrev b : Owned ℕ
b = owned_group 1 9

abbrev c : Owned ℕ
c = owned_group 2 7

abbrev m : Owned ℕ
m = owned_group 1 1

-- P, where the event is a close
abbrev AtClose : Event (Owned ℕ) (Owned ℕ) → Type 0 → Type 0
AtClose (opened g) P = Unit {0}
AtClose (marked n) P = Unit {0}
AtClose closed P = P

-- Q of each way to cut xs at a close, after what was passed
abbrev EachCut : (Tape → Tape → Type 0) → Tape → Tape → Type 0
EachCut Q pre [] = Unit {0}
EachCut Q pre (r ∷ xs) = AtClose r (Q pre xs) × EachCut Q (pre ++ r ∷ []) xs

cut : (Q : Tape → Tape → Type 0) (xs pre y z : Tape) → EachCut Q pre xs → xs ≡ (y ++ closed ∷ []) ++ z → Q (pre ++ y) z
cut Q [] pre [] z h e = absurd (cc)
cut Q [] pre (x ∷ y) z h e = absurd (cc)
cut Q (r ∷ xs) pre [] z h e =
    let p : r ≡ closed = cc in
    let q : xs ≡ z = cc in
    subst (λ (s : Tape). Q s z) (sym (append-nil pre)) (subst (Q pre) q (subst (λ (x : Event (Owned ℕ) (Owned ℕ)). AtClose x (Q pre xs)) p h.0))
cut Q (r ∷ xs) pre (x ∷ y) z h e =
    let p : r ≡ x = cc in
    subst (λ (s : Tape). Q s z) (append_assoc pre (r ∷ []) y ∙ ap (λ (q : Event (Owned ℕ) (Owned ℕ)). pre ++ q ∷ y) p) (cut Q xs (pre ++ r ∷ []) y z h.1 (cc))

-- what no stretch of node n has between and after its groups
abbrev NoStretch : ℕ → Tape → Tape → Type 0
NoStretch n y z = Balanced y → AllByRecursion (Inside sample n) y → AllByRecursion (Outside sample n) z → ⊥

leaf_on_path_1 : In 1 (path sample 1)
unfolding climb
leaf_on_path_1 = Memᴰ.append_right (0 ∷ []) (Memᴰ.head refl)

leaf_not_above_2 : In 1 (above sample 2) → ⊥
unfolding climb
leaf_not_above_2 i = let e : ◌≡◌ {A = ℕ} 1 0 = Memᴰ.eq_of_singleton i in omega arith

early_cuts : EachCut (NoStretch 0) [] (opened b ∷ marked m ∷ closed ∷ closed ∷ opened c ∷ closed ∷ [])
unfolding climb
early_cuts =
    let last : NoStretch 0 (opened b ∷ marked m ∷ closed ∷ closed ∷ opened c ∷ []) [] = λ n i o. let q : ◌≡◌ {A = Option ℕ} None (Some 0) = count_from_balanced n in cc in
    (tt, (tt, ((λ n i o. o.1.0 (Memᴰ.head refl)), ((λ n i o. o.0 (Memᴰ.head refl)), (tt, (last, tt))))))

early_not : Stretch sample 0 (a ∷ []) (early a b c m) → ⊥
unfolding climb
early_not s = go s.before s.splits s.outside_before
  where
    go : (x : Tape) → early a b c m ≡ x ++ (((opened a ∷ s.between) ++ closed ∷ []) ++ s.after) → AllByRecursion (Outside sample 0) x → ⊥
    go [] e o = cut (NoStretch 0) (opened b ∷ marked m ∷ closed ∷ closed ∷ opened c ∷ closed ∷ []) [] s.between s.after early_cuts (cc) s.balanced s.inside s.outside_after
    go (r ∷ x) e o = let p : opened a ≡ r = cc in subst (Outside sample 0) (sym p) o.0 (Memᴰ.head refl)

late_cuts : EachCut (NoStretch 1) [] (marked m ∷ opened c ∷ closed ∷ closed ∷ closed ∷ [])
late_cuts = (tt, (tt, ((λ n i o. leaf_not_above_2 i.1.0), ((λ n i o. leaf_not_above_2 i.1.0), ((λ n i o. leaf_not_above_2 i.1.0), tt)))))

late_not : Stretch sample 1 (b ∷ []) (late a b c m) → ⊥
late_not s = go s.before s.splits s.outside_before
  where
    go : (x : Tape) → late a b c m ≡ x ++ (((opened b ∷ s.between) ++ closed ∷ []) ++ s.after) → AllByRecursion (Outside sample 1) x → ⊥
    go [] e o = let q : a ≡ b = cc in let z : ◌≡◌ {A = ℕ} 0 1 = ap (λ (g : Owned ℕ). g.node) q in omega arith
    go (r ∷ []) e o = cut (NoStretch 1) (marked m ∷ opened c ∷ closed ∷ closed ∷ closed ∷ []) [] s.between s.after late_cuts (cc) s.balanced s.inside s.outside_after
    go (r ∷ (q ∷ x)) e o = let p : opened b ≡ q = cc in subst (Outside sample 1) (sym p) o.1.0 leaf_on_path_1

pub bad_scripts_are_told_apart : BadScriptsAreToldApart
unfolding picture outline document_picture document_outline order climb
bad_scripts_are_told_apart = (
  (balanced_from_count (split 5 9 7 1) refl, refl, λ e. cc),
  (balanced_from_count (early 5 9 7 1) refl, refl, λ e. let z : ◌≡◌ {A = ℕ} 0 1 = ap last_depth e in cc),
  (balanced_from_count (late 5 9 7 1) refl, refl, λ e. let z : ◌≡◌ {A = ℕ} 2 1 = ap last_depth e in cc),
  (balanced_from_count (left_out 5 9 7 1) refl, refl, λ e. cc),
  (balanced_from_count (twice 5 9 7 1) refl, refl, λ e. cc),
  (λ h. let e : a ∷ a ∷ [] ≡ a ∷ [] = h.once 0 (omega arith) in cc),
  (λ h. early_not (h.stretch 0 (omega arith) refl)),
  (λ h. late_not (h.stretch 1 (omega arith) refl)),
  (λ h. let e : ◌≡◌ {A = List (Owned ℕ)} [] (c ∷ []) = h.once 2 (omega arith) in cc),
  λ h. let e : c ∷ c ∷ [] ≡ c ∷ [] = h.once 2 (omega arith) in cc,
)
