-- The tags of the ports of built-in calculators.
use Rattle.std.specs.Prelude.{ℕ, List, [], codes}
use Rattle.mg_kinds.specs.declared.tag.Tag.{Tag}
use Rattle.mg_kinds.specs.declared.tag.Tag.TheVariants.{Untagged, Allow, Disallow, Input, Select, Output, Tick, Loop, Main, Finished, PrevLoop, Iterable, Item, BatchEnd, Clone, Packet, AtPreStream, AtZero, AtPostStream}

abbrev pub tag_text : Tag → List ℕ
tag_text Untagged = []
tag_text Allow = codes "ALLOW"
tag_text Disallow = codes "DISALLOW"
tag_text Input = codes "INPUT"
tag_text Select = codes "SELECT"
tag_text Output = codes "OUTPUT"
tag_text Tick = codes "TICK"
tag_text Loop = codes "LOOP"
tag_text Main = codes "MAIN"
tag_text Finished = codes "FINISHED"
tag_text PrevLoop = codes "PREV_LOOP"
tag_text Iterable = codes "ITERABLE"
tag_text Item = codes "ITEM"
tag_text BatchEnd = codes "BATCH_END"
tag_text Clone = codes "CLONE"
tag_text Packet = codes "PACKET"
tag_text AtPreStream = codes "AT_PRESTREAM"
tag_text AtZero = codes "AT_ZERO"
tag_text AtPostStream = codes "AT_POSTSTREAM"
