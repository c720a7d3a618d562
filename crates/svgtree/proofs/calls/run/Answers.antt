use Rattle.std.proofs.lemmas.Result.{err_from_is_err_and}
use Rattle.svgtree.proofs.Running.{ran_refused, ran_done}
use Rattle.svgtree.proofs.calls.run.Goals as goal

pub returns-in_err-document : goal.returns-in_err-document
returns-in_err-document c =
    let p = err_from_is_err_and c.from_residual.result c.from_residual.ensures.1 in
    rw (p.1, p.2) (ran_refused _ _ _ _ _ _ c.in_err-document.ensures)

pub returns : goal.returns
returns c = ran_done _ _ _ _ _ _ _ _ _ c.in_ok-document.ensures c.edit.ensures
