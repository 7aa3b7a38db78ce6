-- What a call of a store in memory does to the list of its steps.
use Rattle.std.specs.Prelude.{Result, IsErrOf}
use Rattle.ix_outside.specs.Disk.{Disk, TakesOn}
use Rattle.ix_outside.specs.declared.step.Step.{Step}
use Rattle.ix_outside.specs.declared.store.StoreFault.{StoreFault}
use Rattle.ix_outside.specs.declared.store.StoreFault.TheVariants.{Failed}

-- the step is one more, or memory ran out and nothing changed
pub record Records {T : Type 0} (step : Step) (old new : Disk) (result : Result T StoreFault) : Type 0 where
  pub takes : TakesOn step old new result
  pub never : IsErrOf result Failed → ⊥
