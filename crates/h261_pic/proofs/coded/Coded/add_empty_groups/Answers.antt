use Rattle.h261_pic.proofs.EmptyGroups.{none_emptied}
use Rattle.h261_pic.proofs.coded.Coded.add_empty_groups.Goals as goal

pub loop-self-init : goal.loop-self-init
loop-self-init c = none_emptied c.args.self.now c.args.place c.requires.begun
