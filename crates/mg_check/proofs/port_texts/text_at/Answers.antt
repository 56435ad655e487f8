use Rattle.mg_check.proofs.PortNames.{no_text, text_found, text_lost}
use Rattle.mg_check.proofs.port_texts.text_at.Goals as goal

pub returns-in-None : goal.returns-in-None
returns-in-None c = no_text c.args.given.now c.args.port.now c.as_bytes.result.now c.as_bytes.ensures.bytes c.in-None.ensures

pub returns-in-Some-get : goal.returns-in-Some-get
returns-in-Some-get c =
    text_found c.args.given.now c.args.port.now c.as_bytes.result.now c.in-Some.place c.in-Some-get.found.now c.as_str.result.now c.as_bytes.ensures.bytes c.in-Some.ensures c.in-Some-get.ensures c.as_str.ensures

pub returns-in-None-get : goal.returns-in-None-get
returns-in-None-get c = absurd (text_lost c.args.given.now c.args.port.now c.as_bytes.result.now c.in-Some.place c.as_bytes.ensures.bytes c.in-Some.ensures c.in-None-get.ensures)
