-- The kind of a record's image is byte 24.
use Rattle.std.proofs.Common.{◌≡◌, ℕ, refl}
use Rattle.record.specs.Layout.{body, encode}
use Rattle.wal.specs.Journal.{entry}
use Rattle.tree.specs.Log.{Change, Logged}
use Rattle.tree.specs.Log.Change.{Format, Put, Remove, Foster, Adopt, Grow}
use Rattle.tree.specs.Plan.{linked}
use Rattle.tree.proofs.Runs.{is_put, is_remove}
use Rattle.images.specs.Keys.{Key, Value}
use Rattle.images.specs.Records.{content_for, encode_rec}
use Rattle.model.specs.Promises.{is_kind}

pub kind-put : (n : ℕ) (s : Logged Key Value) (c : Change Key Value) → is_kind 2 (entry (encode_rec n (linked s c))) ≡ is_put c
unfolding encode_rec content_for encode body
kind-put n s Format = refl
kind-put n s (Put p k v) = refl
kind-put n s (Remove p k) = refl
kind-put n s (Foster p o d) = refl
kind-put n s (Adopt p o k c) = refl
kind-put n s (Grow o) = refl

pub kind-remove : (n : ℕ) (s : Logged Key Value) (c : Change Key Value) → is_kind 3 (entry (encode_rec n (linked s c))) ≡ is_remove c
unfolding encode_rec content_for encode body
kind-remove n s Format = refl
kind-remove n s (Put p k v) = refl
kind-remove n s (Remove p k) = refl
kind-remove n s (Foster p o d) = refl
kind-remove n s (Adopt p o k c) = refl
kind-remove n s (Grow o) = refl
