mod RisingNumbers
