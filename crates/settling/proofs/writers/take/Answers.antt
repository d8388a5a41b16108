use Rattle.settling.proofs.writers.take.Goals as goal

pub returns-clause-put : goal.returns-clause-put
returns-clause-put c =
    rw (← c.lies-data.ensures) c.put-next.ensures.keeps
