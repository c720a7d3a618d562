use Rattle.picture.proofs.Documents.{fed_nest_is_told_by_the_document_outline}
use Rattle.picture.proofs.fed_nest_is_told_by_the_document_outline.Goals as goal

pub returns : goal.returns
returns g c = fed_nest_is_told_by_the_document_outline
