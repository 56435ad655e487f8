use Rattle.mg_text.proofs.Unicode.{characters_of_utf8, utf8_of_characters}
use Rattle.mg_text.proofs.laws.characters_are_utf8.Goals as goal

pub returns-clause-characters : goal.returns-clause-characters
returns-clause-characters c = characters_of_utf8

pub returns-clause-utf8 : goal.returns-clause-utf8
returns-clause-utf8 c = utf8_of_characters
