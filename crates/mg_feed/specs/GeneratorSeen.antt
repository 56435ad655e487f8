-- What a `Generator` stands for.
use Rattle.mg_feed.specs.Seen.{input_buffer}
use Rattle.mg_feed.specs.Pieces.{Making}
use Rattle.mg_feed.specs.declared.generator.Generator.{Generator}

-- what a generator made, and how many packets it makes in all and made so far
abbrev pub making : Generator → Making
making g = record { view = input_buffer g.input_buffer; number = g.number; made = g.made }
