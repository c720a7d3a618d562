use Rattle.std.proofs.Common.{◌≡◌, true, sym, ◌∙◌, rules}
use lib.Ieee.{fits, binary32}
use Rattle.geom.proofs.Products.{decides, not_finite, all_four}
use Rattle.geom.proofs.matrix.Matrix.is_invertible.Goals as goal

pub returns-then-all_finite : goal.returns-then-all_finite
returns-then-all_finite c =
    let m = c.args.self in
    let a : fits binary32 m.a ≡ true = search rules in
    let b : fits binary32 m.b ≡ true = search rules in
    let x : fits binary32 m.c ≡ true = search rules in
    let d : fits binary32 m.d ≡ true = search rules in
    let e = decides m.a m.b m.c m.d a b x d (all_four m.a m.b m.c m.d ∙ sym c.all_finite.ensures ∙ c.if-all_finite.true) in
    cc

pub returns-else-all_finite : goal.returns-else-all_finite
returns-else-all_finite c =
    let m = c.args.self in
    let e = not_finite m.a m.b m.c m.d (all_four m.a m.b m.c m.d ∙ sym c.all_finite.ensures ∙ c.if-all_finite.false) in
    cc
