-- Two records change places in Work, and counts stay with their names.
use Rattle.std.proofs.Common.{◌≡◌, ℕ, List, Option, Some, ◌∙◌, ap}
use Rattle.std.specs.Prelude.{option_map}
use Rattle.std.specs.FinMap as map
use Rattle.object_table.specs.Entries.{put}
use Rattle.disk_objects.specs.declared.rest.DiskRest.{DiskRest}
use Rattle.disk_objects.specs.Disk.{DiskObject, Objects, IsDisk}
use Rattle.disk_objects.specs.Calls as disk
use Rattle.disk_objects.specs.Calls.{renamed}
use Rattle.core_view.specs.Levels.{Stored, Levels}
use Rattle.core_view.specs.LevelSteps.{recounted, swapped}
use Rattle.delta_counts.specs.At.{stored_of, IsStoredIn}
use Rattle.delta_counts.proofs.StoredLaws.{insert-same, object-at}

swap-same : (objects : Objects) (stored : ℕ → Option Stored) (a b : ℕ) (r k : Stored) → ((q : ℕ) → option_map stored_of (map.get objects q) ≡ stored q) → stored a ≡ Some r → stored b ≡ Some k
    → (q : ℕ) → option_map stored_of (map.get (disk.swapped objects a b) q) ≡ put (put stored a (Some (recounted r.count k))) b (Some (recounted k.count r)) q
swap-same objects stored a b r k same one two q = go (object-at objects stored a r same one) (object-at objects stored b k same two)
  where
    go : (o : DiskObject) × (map.get objects a ≡ Some o) × (stored_of o ≡ r) → (p : DiskObject) × (map.get objects b ≡ Some p) × (stored_of p ≡ k)
        → option_map stored_of (map.get (disk.swapped objects a b) q) ≡ put (put stored a (Some (recounted r.count k))) b (Some (recounted k.count r)) q
    go x y =
        let o = x.0 in
        let p = y.0 in
        let is : disk.swapped objects a b ≡ map.insert (map.insert objects a (renamed p a o.count)) b (renamed o b p.count) =
        ap (λ (z : Option DiskObject). disk.swapped_by objects a b z (map.get objects b)) x.1 ∙ ap (λ (z : Option DiskObject). disk.swapped_by objects a b (Some o) z) y.1 in
        let first = insert-same objects stored a (renamed p a o.count) same in
        let second = insert-same (map.insert objects a (renamed p a o.count)) (put stored a (Some (stored_of (renamed p a o.count)))) b (renamed o b p.count) first in
        ap (λ (m : Objects). option_map stored_of (map.get m q)) is ∙ second q
        ∙ ap (λ (z : Stored). put (put stored a (Some (recounted z.count (stored_of p)))) b (Some (recounted (stored_of p).count z)) q) x.2
        ∙ ap (λ (z : Stored). put (put stored a (Some (recounted r.count z))) b (Some (recounted z.count r)) q) y.2

pub swap-stored : (rest now : DiskRest) (work after : List ℕ) (t : Levels) (a b : ℕ) (r k : Stored) → IsStoredIn rest work t.stored t.pending → t.stored a ≡ Some r → t.stored b ≡ Some k
    → ((objects : Objects) → IsDisk rest work objects t.pending → IsDisk now after (disk.swapped objects a b) t.pending)
    → IsStoredIn now after (swapped t a b r k).stored (swapped t a b r k).pending
swap-stored rest now work after t a b r k x one two f = record {
  objects = disk.swapped x.objects a b;
  disk = f x.objects x.disk;
  same = swap-same x.objects t.stored a b r k x.same one two;
}
