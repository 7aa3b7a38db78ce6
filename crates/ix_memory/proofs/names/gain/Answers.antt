use Rattle.std.proofs.Common.{not, rules, ◌≡◌, ◌++◌, ◌∷◌, []}
use Rattle.std.proofs.lemmas.List.Elements.{All-filter, All-push}
use Rattle.ix_base.specs.FileNames.{IsFileName}
use Rattle.ix_outside.specs.Disk.{is_same}
use Rattle.ix_memory.proofs.NameLists.{without, gains}
use Rattle.ix_memory.proofs.names.gain.Goals as goal

pub returns-clause-change : goal.returns-clause-change
returns-clause-change c =
    let e : c.push.new.self.items ≡ without c.args.name c.args.names.now.items ++ c.args.name ∷ [] = search rules in
    rw e (gains c.args.name c.args.names.now.items)

pub returns-clause-real : goal.returns-clause-real
returns-clause-real c name all =
    let e : c.push.new.self.items ≡ without c.args.name c.args.names.now.items ++ c.args.name ∷ [] = search rules in
    rw e (All-push IsFileName (without c.args.name c.args.names.now.items) c.args.name
    (All-filter (λ other. not (is_same other c.args.name)) IsFileName c.args.names.now.items all) name)
