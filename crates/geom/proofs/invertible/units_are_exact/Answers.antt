use Rattle.std.proofs.Common.{◌≡◌, ℕ, true, false, pos, negsuc, ap, arith, eq-eqb, eqb-true}
use Rattle.geom.specs.Invertible.{SameIsEquality}
use Rattle.geom.proofs.Units.{units_exact}
use Rattle.geom.proofs.invertible.units_are_exact.Goals as goal

unlike : {A : Type 0} → false ≡ true → A
unlike h = let z : ◌≡◌ {A = ℕ} 0 1 = cc in absurd (omega arith)

same_is_equality : SameIsEquality
same_is_equality (pos m) (pos n) = (λ h. ap pos (eqb-true m n h), λ e. eq-eqb m n (cc))
same_is_equality (pos m) (negsuc n) = (λ h. unlike h, λ e. let z : ◌≡◌ {A = ℕ} 0 1 = cc in absurd (omega arith))
same_is_equality (negsuc m) (pos n) = (λ h. unlike h, λ e. let z : ◌≡◌ {A = ℕ} 0 1 = cc in absurd (omega arith))
same_is_equality (negsuc m) (negsuc n) = (λ h. ap negsuc (eqb-true m n h), λ e. eq-eqb m n (cc))

pub returns : goal.returns
returns c = record { lossless = units_exact; compared = same_is_equality }
