use Rattle.frame_laws.proofs.ComposedPictures.{composed-shows, composed-valid, composed-length, composed-legal}
use Rattle.frame_laws.proofs.composed.Goals as goal

pub returns-clause-shows : goal.returns-clause-shows
returns-clause-shows c = composed-shows

pub returns-clause-valid : goal.returns-clause-valid
returns-clause-valid c = composed-valid

pub returns-clause-length : goal.returns-clause-length
returns-clause-length c = composed-length

pub returns-clause-legal : goal.returns-clause-legal
returns-clause-legal c = composed-legal
