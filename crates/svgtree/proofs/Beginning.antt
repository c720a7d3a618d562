-- A document begins.
use Rattle.std.proofs.Common.{◌≡◌, ℕ, List, [], ◌∷◌, length, None, Ok, Result, sym, refl, ◌∙◌, subst, arith}
use Rattle.refusal.specs.Order.{first_of, unless}
use Rattle.refusal.specs.declared.Refusal.{Refusal}
use Rattle.element.specs.declared.value.Kind.TheVariants.{Svg}
use Rattle.geom.specs.declared.options.Options.{Options}
use Rattle.list.specs.Bounded.{Appended}
use Rattle.svgtree.specs.declared.node.Node.{Node}
use Rattle.svgtree.specs.Steps.{new_checks}
use Rattle.svgtree.specs.Memory.{fresh}
use Rattle.svgtree.specs.Links.{Linked}
use Rattle.svgtree.specs.Edits.{Begun}
use Rattle.svgtree.proofs.Reading.{not_refused}

-- the root alone is linked
alone : Linked (fresh Svg 0 1 ∷ [])
unfolding Linked
alone =
    record {
      root = λ h. (refl, refl);
      before = λ j h l. absurd (omega arith);
      levels = λ j h l. absurd (omega arith);
      firsts = λ p h. let i : p ≡ 0 = omega arith in rw i (λ j k l e. omega arith);
      lasts = λ p h. let i : p ≡ 0 = omega arith in rw i (λ j k l e. omega arith);
      nexts = λ k h l. absurd (omega arith);
    }

pub begins : (options : Options) (ns : List Node) (r : Result (Unit {0}) Refusal) → r ≡ unless (first_of (new_checks (length ns) options)) tt → r ≡ Ok tt → (count : ℕ) (vs : List Node) → Appended ns 0 (fresh Svg 0 1) count vs →
    Begun options ns (Ok (record { count = count; options = options })) vs
begins options ns r answer passed count vs appended =
    let checked : first_of (new_checks (length ns) options) ≡ None = not_refused (first_of (new_checks (length ns) options)) tt tt (sym answer ∙ passed) in
    let one : count ≡ 1 = appended.counted in
    record {
      answer = rw (checked, one) refl;
      memory = appended.memory;
      step = rw (checked, appended.list) refl;
      links = subst Linked (sym appended.list) alone;
    }
