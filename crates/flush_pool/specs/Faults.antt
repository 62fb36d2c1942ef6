-- What a courier names a fault of a buffer or of a sink.
use Rattle.buffer_store.specs.declared.fault.BufferFault.{BufferFault}
use Rattle.buffer_store.specs.declared.fault.BufferFault.TheVariants as store
use Rattle.sink_series.specs.declared.fault.SeriesFault.{SeriesFault}
use Rattle.sink_series.specs.declared.fault.SeriesFault.TheVariants as series
use Rattle.flush_pool.specs.declared.fault.CarryFault.{CarryFault}
use Rattle.flush_pool.specs.declared.fault.CarryFault.TheVariants.{Device, Memory}

-- why a chunk couldn't be read: there was no memory, or else the device failed
abbrev pub of_buffer : BufferFault → CarryFault
of_buffer store.Memory = Memory
of_buffer _ = Device

-- why a chunk couldn't be written: there was no memory, or else the device failed, now or before
abbrev pub of_sink : SeriesFault → CarryFault
of_sink series.Memory = Memory
of_sink _ = Device
