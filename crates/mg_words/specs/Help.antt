-- The texts that the program writes of itself.
use Rattle.std.specs.Prelude.{ℕ, List, codes}

-- what `--version` writes
unfoldable pub version_text : List ℕ
version_text = codes "mg 0.1.0\n"

-- what `--help` writes
unfoldable pub help_text : List ℕ
help_text = codes "mg runs MediaPipe calculator graphs: packet lines in, output lines out.\n\nusage: mg COMMAND [OPTIONS] GRAPH [SUBGRAPH...]\n\nGRAPH is the file of a graph in the protobuf text form, and SUBGRAPH are up to\n64 files of subgraphs that it uses. A file name that begins with - goes after --.\n\ncommands:\n  run        read packet lines, run the graph, write its output lines\n  solve      the same by the equations of the graph, without running it\n  check      tell whether the graph is valid, and what it counts\n  expand     write the graph with its subgraphs put in\n  generate   run the graph on packets that are made up, write a summary\n  trace      read all packet lines, run the graph, write what happened in it\n  replay     read such a recorded run, make it again, write its output lines\n\noptions:\n  --workers N          threads, 0 to 64; without it num_threads of the graph\n  --max-queue-size N   when a queue is full, 1 to 1000000 packets; without it\n                       max_queue_size of the graph, or 100\n  --no-queue-limit     no queue is ever full\n  --number N           packets that generate makes, 0 to 1000000; it needs this\n  --report             note what each node and each stream did\n  --no-arrivals        note no packets that arrived at free nodes\n  --unbuffered         run free nodes as soon as no more lines have come\n  -h, --help           write this text\n  -V, --version        write the version\n\nstatuses:\n  0  all went well\n  1  a file could not be loaded\n  2  the words are no command\n  3  a graph or subgraph file was refused\n  4  a line of the input was refused\n  5  a calculator failed\n  6  the input ended, and a stream never closed\n  7  the input could not be read\n  8  the output or the notes could not be written\n  9  there was not enough memory\n\nexample:\n  mg run graph.pbtxt <packets.jsonl\n"

-- the note on words that are no command
unfoldable pub usage_note : List ℕ
usage_note = codes "usage: mg run|solve|check|expand|generate|trace|replay [--workers N] [--max-queue-size N] [--no-queue-limit] [--number N] [--report] [--no-arrivals] [--unbuffered] GRAPH [SUBGRAPH...]\n"
