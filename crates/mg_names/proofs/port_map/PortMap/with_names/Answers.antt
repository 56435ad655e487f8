use Rattle.std.proofs.Common.{◌∙◌, ap, ◌≡◌, length, arith}
use Rattle.mg_names.proofs.Renamed.{found_renamed, length-with_names}
use Rattle.mg_names.proofs.port_map.PortMap.with_names.Goals as goal

pub invariant_of-result : goal.invariant_of-result
invariant_of-result c =
    let ports = c.self.inside.ports in
    let names = c.args.names.items in
    let same : length c.named-ports.result ≡ length ports = ap length c.named-ports.ensures ∙ length-with_names ports names in
    (omega (arith, c.self.invariant.0), λ tag index. found_renamed c.self.inside.places ports c.named-ports.result names tag index c.named-ports.ensures (c.self.invariant.1 tag index))
