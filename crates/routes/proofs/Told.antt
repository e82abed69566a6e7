-- What stops a way, as the store tells it.
use Rattle.std.proofs.Common.{Ok, Err, Result}
use Rattle.tree.specs.Tree.{Image}
use Rattle.tree.specs.Walk.{Fault, Fetched, Walked}
use Rattle.tree.specs.Walk.Fault.{Gone, Ill, Wrong}
use Rattle.tree.specs.Walk.Fetched.{Page, Failed}
use Rattle.tree.specs.Walk.Walked.{Met, Stopped}
use Rattle.images.specs.Keys.{Key, Value}
use Rattle.model.specs.declared.refusal.Refusal.{Refusal}
use Rattle.model.specs.declared.refusal.Refusal.TheVariants.{LostRecord, MisfitRecord, WrongPage}
use Rattle.model.specs.Refusals.{check_of}
use Rattle.model.specs.Ways.{Route, route}

abbrev pub told : Fault → Refusal
told (Gone p n) = LostRecord p n
told (Ill p n) = MisfitRecord p n
told (Wrong p c) = WrongPage p (check_of c)

abbrev pub fetched_as : Fetched Key Value → Result (Image Key Value) Refusal
fetched_as (Page x) = Ok x
fetched_as (Failed f) = Err (told f)

abbrev pub routed : Walked Key Value → Result Route Refusal
routed (Met vs l) = Ok (route vs l)
routed (Stopped f) = Err (told f)
