use Rattle.tree.proofs.Plan.{put-kept, tend_kept}
use Rattle.tree.proofs.plans_kept.Goals as goal

pub returns : goal.returns
returns c = λ rank top least ranked pair_cost kid_cost cheap s priced sound.
    (put-kept rank top least ranked pair_cost kid_cost cheap s priced sound, tend_kept rank top least ranked pair_cost kid_cost cheap s priced sound)
