use Rattle.std.proofs.Common.{rules}
use Rattle.svgtree.proofs.Calling.{called_add, called_set, called_unset}
use Rattle.svgtree.proofs.document.Document.call.Goals as goal

pub returns-in-Add : goal.returns-in-Add
returns-in-Add c =
    called_add _ _ _ _ _ _ _ c.add.result _ c.in-Add.is (search rules) c.add.ensures

pub returns-in-Set : goal.returns-in-Set
returns-in-Set c = search (rules, called_set)

pub returns-in-Unset : goal.returns-in-Unset
returns-in-Unset c = search (rules, called_unset)
