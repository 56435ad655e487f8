use Rattle.mg_run.proofs.Headlines.{told_contents, told_reading}
use Rattle.mg_run.proofs.laws.told_devices_pin_a_headline.Goals as goal

pub returns-clause-contents : goal.returns-clause-contents
returns-clause-contents c = told_contents

pub returns-clause-reading : goal.returns-clause-reading
returns-clause-reading c = told_reading
