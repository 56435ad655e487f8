-- What a `Request` of the code stands for.
use Rattle.mg_words.specs.Command.{command}
use Rattle.mg_words.specs.Help.{help_text, version_text}
use Rattle.mg_words.specs.Words.{Request, asks_usage, asks_text, asks_command}
use Rattle.mg_words.specs.declared.words.Request as code
use Rattle.mg_words.specs.declared.words.Request.TheVariants.{Usage, Help, Version, Command}

abbrev pub request_view : code.Request → Request
request_view Usage = asks_usage
request_view Help = asks_text help_text
request_view Version = asks_text version_text
request_view (Command instruction files) = asks_command (command instruction files.items)
