-- What an edit of a document answers.
use Rattle.svgtree.specs.declared.calls.Done.{Done as Did}
use Rattle.svgtree.specs.declared.calls.Done.TheVariants as did
use Rattle.reply.specs.declared.answer.Answer.{Answer}
use Rattle.reply.specs.declared.answer.Answer.TheVariants.{Node, Done}

abbrev pub answer_of : Did → Answer
answer_of (did.Added n) = Node n
answer_of did.Edited = Done
