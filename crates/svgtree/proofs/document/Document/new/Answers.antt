use Rattle.std.proofs.Common.{rules, ◌≡◌, Ok}
use Rattle.svgtree.proofs.Beginning.{begins}
use Rattle.svgtree.proofs.document.Document.new.Goals as goal

pub returns : goal.returns
returns c =
    let added : c.add.result ≡ Ok c.in_ok-count.count = search rules in
    begins _ _ _ (rw (c.is_empty.ensures, c.are_good.ensures) at c.first.ensures) c.in_ok-first.was _ _ (rw (added, c.new.ensures) at c.add.ensures.effect)
