use Rattle.rart_family.specs.Keys.{by_bytes}
use Rattle.vtree_lines.proofs.SessionLemmas.{read_line}
use Rattle.vtree_lines.proofs.session.Session.command.Goals as goal

pub returns : goal.returns
returns c = λ line reading.
    read_line (by_bytes (λ key. key.bytes.items)) c.args.self.now line c.deref.result.now
    c.parse.result c.deref.ensures.0 reading c.if-self-gt-LONGEST.false c.parse.ensures
