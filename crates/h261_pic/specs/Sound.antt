-- What is true of the fields of a coded picture.
use Rattle.std.specs.Prelude.{◌≡◌, ◌+◌, ◌-◌, ◌*◌, ◌<◌, ◌≤◌, [], length}
use Rattle.h261_pic.specs.declared.coded.Coded.TheInside.{Inside}
use Rattle.h261_pic.specs.Coded.{Coding, HasPicture, nothing}
use Rattle.pel_model.specs.Headers.{group_header_length}
use Rattle.pel_model.specs.Valid.{group_count, limit}

-- the text and the groups that the fields hold
abbrev pub written : Inside → Coding
written c = record { format = c.format; tr = c.tr; bits = c.text.list; groups = c.groups.items; marks = c.marks.items }

-- the buffer has room for the longest text, what is written leaves room for the headers to come, and a group has at
-- most 33 macroblocks
pub record IsSound (c : Inside) : Type 0 where
  pub capacity : c.text.capacity ≡ limit c.format
  pub within : length c.text.list ≤ limit c.format
  pub groups : length c.groups.items ≤ group_count c.format
  pub room : 0 < length c.text.list → length c.text.list + group_header_length * (group_count c.format - length c.groups.items) ≤ limit c.format
  pub marks : length c.marks.items ≤ 33 * length c.groups.items
  pub picture : 0 < length c.text.list → HasPicture (written c)
  pub empty : c.text.list ≡ [] → written c ≡ nothing c.format
