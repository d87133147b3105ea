-- A prefix of any length, wherever its bytes are held.
use Rattle.std.specs.Prelude.{ℕ, List, take}
use Rattle.rart_below.specs.declared.held.Far.{Far}
use Rattle.rart_below.specs.declared.held.Far.TheVariants.{InShort, InMiddle, InLong, InVector}
use Rattle.rart_below.specs.declared.held.Held.{Held}
use Rattle.rart_below.specs.declared.held.Held.TheVariants.{InPlace, OnHeap}
use Rattle.rart_below.specs.declared.held.TheConstants.{FEW, SHORT, MIDDLE, LONG}

-- the bytes that count
abbrev pub far_bytes : Far → List ℕ
far_bytes (InShort len block) = take len block.value
far_bytes (InMiddle len block) = take len block.value
far_bytes (InLong len block) = take len block.value
far_bytes (InVector vector) = vector.value.items

abbrev pub bytes_of : Held → List ℕ
bytes_of (InPlace few) = take few.len few.bytes
bytes_of (OnHeap far) = far_bytes far

-- how many bytes count of those that are there, and how many are there; of a vector all count
abbrev pub far_count : Far → ℕ
far_count (InShort len block) = len
far_count (InMiddle len block) = len
far_count (InLong len block) = len
far_count (InVector vector) = 0

abbrev pub far_room : Far → ℕ
far_room (InShort len block) = SHORT
far_room (InMiddle len block) = MIDDLE
far_room (InLong len block) = LONG
far_room (InVector vector) = 0

abbrev pub count_of : Held → ℕ
count_of (InPlace few) = few.len
count_of (OnHeap far) = far_count far

abbrev pub room_of : Held → ℕ
room_of (InPlace few) = FEW
room_of (OnHeap far) = far_room far
