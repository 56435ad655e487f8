use Rattle.mg_files.proofs.OneFile.{one_file}
use Rattle.mg_files.proofs.laws.one_file.Goals as goal

pub returns : goal.returns
returns c = one_file
