-- Looks by their stamps.
use Rattle.std.specs.Prelude.{ℕ, List, [], slice_get, Option, Some, None}
use Rattle.cx_checker.specs.declared.showing.Bucket.{Bucket}

abbrev pub indexes_in : Option Bucket → List ℕ
indexes_in None = []
indexes_in (Some b) = b.indexes.items

-- the indexes of the looks of this stamp
abbrev pub bucket_at : List Bucket → ℕ → List ℕ
bucket_at buckets k = indexes_in (slice_get buckets k)
