use Rattle.std.proofs.Common.{refl}
use Rattle.paper.specs.Reading.{before_next}
use Rattle.state.proofs.columns.before.Goals as goal

pub returns-in-Individual : goal.returns-in-Individual
returns-in-Individual c = rw c.in-Individual.is c.flag.ensures

pub returns-in-FileHeader : goal.returns-in-FileHeader
unfolding before_next
returns-in-FileHeader c = rw c.in-FileHeader.is refl

pub returns-in-BatchHeader : goal.returns-in-BatchHeader
unfolding before_next
returns-in-BatchHeader c = rw c.in-BatchHeader.is refl

pub returns-in-Additional : goal.returns-in-Additional
unfolding before_next
returns-in-Additional c = rw c.in-Additional.is refl

pub returns-in-BatchControl : goal.returns-in-BatchControl
unfolding before_next
returns-in-BatchControl c = rw c.in-BatchControl.is refl

pub returns-in-FileControl : goal.returns-in-FileControl
unfolding before_next
returns-in-FileControl c = rw c.in-FileControl.is refl

pub returns-in-Other : goal.returns-in-Other
unfolding before_next
returns-in-Other c = rw c.in-Other.is refl
