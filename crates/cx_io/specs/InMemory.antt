-- What the sides in memory have left, and what they have taken.
use Rattle.std.specs.Prelude.{ℕ, Bool, true, false, List, drop, Option, Some, None}
use Rattle.cx_io.specs.declared.bytes.SureBytes.{SureBytes}
use Rattle.cx_io.specs.declared.bytes.Bytes.{Bytes}
use Rattle.cx_io.specs.declared.buffer.SureBuffer.{SureBuffer}
use Rattle.cx_io.specs.declared.buffer.Buffer.{Buffer}

-- the bytes that are not yet read
abbrev pub left_of_sure : SureBytes → List ℕ
left_of_sure s = drop s.at s.bytes.items

-- the same of bytes of which pulls may fail
abbrev pub left_of : Bytes → List ℕ
left_of s = left_of_sure s.bytes

-- what is told of bytes that may be lost
abbrev pub told : Bool → List ℕ → Option (List ℕ)
told true bytes = None
told false bytes = Some bytes

-- the bytes that were taken, unless some found no memory
abbrev pub taken_by_sure : SureBuffer → Option (List ℕ)
taken_by_sure s = told s.lost s.bytes.items

-- the same of a buffer of which pushes may fail
abbrev pub taken_by : Buffer → Option (List ℕ)
taken_by s = taken_by_sure s.buffer
