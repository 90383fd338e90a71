use Rattle.findings.proofs.of_queue.returned_fits.Goals as goal

pub returns-in-None : goal.returns-in-None
returns-in-None c = λ yes reply returned. absurd (c.in-None.ensures.none reply returned)
