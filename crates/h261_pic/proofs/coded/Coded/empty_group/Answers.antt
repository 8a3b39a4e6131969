use Rattle.h261_pic.specs.Coded.{next_number}
use Rattle.h261_pic.proofs.Grows.{empty_group_text, empty-added}
use Rattle.h261_pic.proofs.coded.Coded.empty_group.Goals as goal

pub add_group-requires-clause-text : goal.add_group-requires-clause-text
add_group-requires-clause-text c = empty_group_text c.args.self.now.format (next_number c.args.self.now)

pub returns-clause-picture : goal.returns-clause-picture
returns-clause-picture c = λ p old_is. empty-added c.args.self.now _ p old_is c.add_group.ensures
