use Rattle.calc_cli.proofs.session.Session.recalculate.Given as goal

abbrev pub ghosts-recalculate : goal.ghosts-recalculate
ghosts-recalculate g a = record { name = a.blank.name; parts = a.blank.parts }
