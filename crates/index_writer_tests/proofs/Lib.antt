mod AtWork
