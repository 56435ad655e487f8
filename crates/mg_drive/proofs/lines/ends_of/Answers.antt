use Rattle.mg_drive.proofs.lines.ends_of.Goals as goal

pub returns-clause-feed : goal.returns-clause-feed
returns-clause-feed c = record { graph = c.in_ok-feed.ensures.graph; stands = c.in_ok-feed.ensures.stands; unread = c.in_ok-feed.ensures.unread }
