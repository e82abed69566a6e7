use Rattle.tree.proofs.Put.{put-stays, remove-stays}
use Rattle.tree.proofs.Divide.{divide-stays}
use Rattle.tree.proofs.Adopt.{adopt-stays}
use Rattle.tree.proofs.Grow.{grow-stays}
use Rattle.tree.proofs.sound_stays.Goals as goal

pub returns : goal.returns
returns c = λ rank top least ranked s sound. (
  (λ p k v may. put-stays rank top least s sound p k may v),
  (λ p k may. remove-stays rank top least s sound p k may),
  (λ p d may. divide-stays rank top least ranked s sound p d may),
  (λ p y k c may. adopt-stays rank top least ranked s sound p y k c may),
  grow-stays rank top least ranked s sound,
)
